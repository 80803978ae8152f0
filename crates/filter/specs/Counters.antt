-- Counters of 4 bits, one for each position: issuing a receipt raises those that it names, spending it lowers them.
use Rattle.std.specs.Prelude.{◌≡◌, ℕ, ◌+◌, ◌-◌, ◌<◌, Bool, true, false, cond, List, length, ◌==◌, nat_lt, slice_index}
use Rattle.filter.specs.Positions.{names}

-- one counter: where it is named it goes up by 1, and stops at 15
abbrev pub raised : Bool → ℕ → ℕ
raised named c = cond named (cond (nat_lt c 15) (c + 1) c) c

-- one counter: where it is named it goes down by 1, but one at 15 remains
abbrev pub lowered : Bool → ℕ → ℕ
lowered named c = cond named (cond (c == 15) c (c - 1)) c

-- each counter takes one step, which may look at whether the positions name it
pub record Stepped (step : Bool → ℕ → ℕ) (positions before after : List ℕ) : Type 0 where
  pub long : length after ≡ length before
  pub each : (p : ℕ) → p < length before → slice_index after p ≡ step (names positions p) (slice_index before p)

-- the counters before and after a receipt with these positions was issued
abbrev pub Issued : List ℕ → List ℕ → List ℕ → Type 0
Issued positions before after = Stepped raised positions before after

-- the counters before and after a receipt with these positions was spent
abbrev pub Spent : List ℕ → List ℕ → List ℕ → Type 0
Spent positions before after = Stepped lowered positions before after

-- each counter that the positions name changes so, and the others remain
pub record Changed (change : ℕ → ℕ → Type 0) (positions before after : List ℕ) : Type 0 where
  pub long : length after ≡ length before
  pub named : (p : ℕ) → p < length before → names positions p ≡ true → change (slice_index before p) (slice_index after p)
  pub others : (p : ℕ) → p < length before → names positions p ≡ false → slice_index after p ≡ slice_index before p
