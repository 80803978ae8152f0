-- Octets in hexadecimal.
use Rattle.std.specs.Prelude.{ℕ, ◌+◌, ◌/◌, ◌%◌, cond, List, [], ◌∷◌, nat_lt}

-- the digit of a number below 16: 0 to 9, and then a to f
abbrev pub digit : ℕ → ℕ
digit n = cond (nat_lt n 10) (48 + n) (87 + n)

-- two digits for each octet, the high one first
abbrev pub hexadecimal : List ℕ → List ℕ
hexadecimal [] = []
hexadecimal (x ∷ xs) = digit (x / 16) ∷ digit (x % 16) ∷ hexadecimal xs
