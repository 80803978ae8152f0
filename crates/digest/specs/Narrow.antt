-- Each word of a digest is below 2^32.
use Rattle.std.specs.List.{AllByRecursion}
use Rattle.std.proofs.Common.{ℕ, ◌+◌, ◌*◌, ◌%◌, ◌^◌, ◌<◌, List, [], ◌∷◌, ◌++◌, fold, arith, lit<}
use Rattle.digest.specs.Fnv.{hashed, fnv_words, offset_basis}
use Rattle.digest.specs.Md5.{md5_words}

-- a hash fits 64 bits
below : (h : ℕ) → h < 2 ^ 64 → (octets : List ℕ) → fold hashed h octets < 2 ^ 64
below h small [] = small
below h small (x ∷ xs) = below (hashed h x) (omega arith) xs

pub fnv_narrow : (name : List ℕ) → AllByRecursion (λ w. w < 2 ^ 32) (fnv_words name)
fnv_narrow name =
    let h = below offset_basis (lit< tt) name in
    let k = below offset_basis (lit< tt) (name ++ 1 ∷ []) in
    (omega arith, (omega arith, (omega arith, (omega arith, tt))))

-- a word of four octets is below 2^32
four_octets : (a b c d : ℕ) → a % 256 * 16777216 + b % 256 * 65536 + c % 256 * 256 + d % 256 < 2 ^ 32
four_octets a b c d = omega arith

pub md5_narrow : (name : List ℕ) → AllByRecursion (λ w. w < 2 ^ 32) (md5_words name)
md5_narrow name = (four_octets _ _ _ _, (four_octets _ _ _ _, (four_octets _ _ _ _, (four_octets _ _ _ _, tt))))
