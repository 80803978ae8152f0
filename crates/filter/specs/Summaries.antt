-- Summaries: a bit for each position, eight to an octet.
use Rattle.std.specs.Prelude.{◌≡◌, ℕ, zero, suc, ◌+◌, ◌*◌, ◌/◌, ◌%◌, ◌^◌, ◌<◌, Bool, true, cond, not, ◌&&◌, List, [], ◌∷◌, length, ◌==◌, nat_lt, slice_index}

-- whether a number has the value 2^k among those that make it up
abbrev pub has_value : ℕ → ℕ → Bool
has_value x k = x / 2 ^ k % 2 == 1

-- position p has the value 2^(p mod 8) in octet p / 8
abbrev pub bit : List ℕ → ℕ → Bool
bit octets p = has_value (slice_index octets (p / 8)) (p % 8)

-- the summary of counters: a bit is 1 exactly when its counter is above 0
pub record Summarizes (counters octets : List ℕ) : Type 0 where
  pub long : 8 * length octets ≡ length counters
  pub bits : (p : ℕ) → p < length counters → bit octets p ≡ nat_lt 0 (slice_index counters p)

-- a name tests present when all its positions have bit 1
abbrev pub present : List ℕ → List ℕ → Bool
present octets [] = true
present octets (p ∷ ps) = bit octets p && present octets ps

-- how many of the positions below n pass a test
abbrev pub tally : (ℕ → Bool) → ℕ → ℕ
tally test zero = 0
tally test (suc n) = tally test n + cond (test n) 1 0

-- whether two summaries differ at a position
abbrev pub differs : List ℕ → List ℕ → ℕ → Bool
differs a b p = cond (bit a p) (not (bit b p)) (bit b p)
