-- FNV-1a of 64 bits.
use Rattle.std.specs.Prelude.{ℕ, ◌*◌, ◌/◌, ◌%◌, ◌^◌, List, [], ◌∷◌, ◌++◌, fold, bit_xor}

-- the hash before any octet
abbrev pub offset_basis : ℕ
offset_basis = 0xcbf29ce484222325

-- 2^40 + 2^8 + 0xb3
abbrev pub prime : ℕ
prime = 0x100000001b3

-- the hash after one more octet: exclusive or, and then the product with the prime, modulo 2^64
abbrev pub hashed : ℕ → ℕ → ℕ
hashed h octet = bit_xor h octet * prime % 2 ^ 64

-- the hash of some octets
abbrev pub fnv1a : List ℕ → ℕ
fnv1a octets = fold hashed offset_basis octets

-- a number of 64 bits as two words of 32 bits, the high one first
abbrev pub halves : ℕ → List ℕ
halves h = h / 2 ^ 32 ∷ h % 2 ^ 32 ∷ []

-- the four words of a name: the hash of its octets, and that of its octets followed by the octet 01
abbrev pub fnv_words : List ℕ → List ℕ
fnv_words name = halves (fnv1a name) ++ halves (fnv1a (name ++ 1 ∷ []))
