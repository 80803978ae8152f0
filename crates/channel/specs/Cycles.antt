-- Every so many calls one is due.
use Rattle.std.specs.Prelude.{◌≡◌, ℕ, zero, suc, ◌+◌, ◌%◌, ◌≤◌, Bool, cond, Decides, ◌==◌, nat_lt}
use Rattle.channel.specs.declared.cycle.Cycle.{Cycle}

-- no call was counted
abbrev pub start : ℕ → Cycle
start n = record { period = n; phase = 0 }

-- whether the next call is due
abbrev pub due : Cycle → Bool
due c = c.phase + 1 == c.period

-- one more call was counted
abbrev pub next : Cycle → Cycle
next c = record { period = c.period; phase = cond (nat_lt (c.phase + 1) c.period) (c.phase + 1) 0 }

-- so many calls were counted from the start
abbrev pub counted : ℕ → ℕ → Cycle
counted n zero = start n
counted n (suc k) = next (counted n k)

-- after k calls the phase is k modulo n, and the next call is due where it is the n-th, the 2n-th and so on
abbrev pub EveryNthIsDue : Type 0
EveryNthIsDue = (n k : ℕ) → (1 ≤ n → (counted n k).phase ≡ k % n) × Decides (due (counted n k)) ((1 ≤ n) × ((k + 1) % n ≡ 0))
