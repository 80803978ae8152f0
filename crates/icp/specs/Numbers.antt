-- Numbers in octets, the highest octet first.
use Rattle.std.specs.Prelude.{ℕ, ◌+◌, ◌*◌, ◌/◌, ◌%◌, List, [], ◌∷◌, slice_index}

-- a number below 2^16 as two octets
abbrev pub octets2 : ℕ → List ℕ
octets2 n = (n / 256 % 256) ∷ (n % 256) ∷ []

-- a number below 2^32 as four octets
abbrev pub octets4 : ℕ → List ℕ
octets4 n = (n / 16777216 % 256) ∷ (n / 65536 % 256) ∷ (n / 256 % 256) ∷ (n % 256) ∷ []

-- the number in the two octets from place i on
abbrev pub number2 : List ℕ → ℕ → ℕ
number2 xs i = slice_index xs i * 256 + slice_index xs (i + 1)

-- the number in the four octets from place i on
abbrev pub number4 : List ℕ → ℕ → ℕ
number4 xs i = slice_index xs i * 16777216 + slice_index xs (i + 1) * 65536 + slice_index xs (i + 2) * 256 + slice_index xs (i + 3)
