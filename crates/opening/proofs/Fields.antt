-- Numbers written and read, and the first octets of a list.
use Rattle.std.proofs.Common.{◌≡◌, ℕ, zero, suc, ◌+◌, ◌*◌, ◌/◌, ◌%◌, ◌<◌, ◌≤◌, List, [], ◌∷◌, ◌++◌, length, get_or, drop, sym, refl, ap, ◌∙◌, arith}
use native.Mathlib.Nat.{div-div-eq-div-mul}
use Rattle.std.proofs.lemmas.List.{drop_more}
use Rattle.icp.specs.Numbers.{octets2, octets4, number2, number4}
use Rattle.icp.specs.Contents.{header}
use Rattle.opening.specs.Reading.{opcode_in, version_in, length_in, request_in, options_in, data_in, sender_in}
use Rattle.opening.specs.Laws.{Octets}

-- a number that was written is read

pub read2 : (n : ℕ) → n < 65536 → n / 256 % 256 * 256 + n % 256 ≡ n
read2 n h = omega arith

-- a number by its quotient and its remainder
digit : (x : ℕ) → x ≡ 256 * (x / 256) + x % 256
digit x = omega arith

-- the digits of a number, put together again
joins : (n a b c x y z w : ℕ) → n ≡ 256 * a + w → a ≡ 256 * b + z → b ≡ 256 * c + y → c ≡ x → x * 16777216 + y * 65536 + z * 256 + w ≡ n
joins n a b c x y z w e1 e2 e3 e4 = omega arith

pub read4 : (n : ℕ) → n < 4294967296 → n / 16777216 % 256 * 16777216 + n / 65536 % 256 * 65536 + n / 256 % 256 * 256 + n % 256 ≡ n
read4 n h =
    let second : n / 256 / 256 ≡ n / 65536 = div-div-eq-div-mul n 256 256 in
    let third : n / 65536 / 256 ≡ n / 16777216 = div-div-eq-div-mul n 65536 256 in
    let top : n / 16777216 ≡ n / 16777216 % 256 = let small : n / 16777216 < 256 = omega arith in omega arith in
    joins n (n / 256) (n / 65536) (n / 16777216) (n / 16777216 % 256) (n / 65536 % 256) (n / 256 % 256) (n % 256)
    (digit n)
    (digit (n / 256) ∙ ap (λ q. 256 * q + n / 256 % 256) second)
    (digit (n / 65536) ∙ ap (λ q. 256 * q + n / 65536 % 256) third)
    top

-- a number that was read is written

pub write2 : (a b : ℕ) → a < 256 → b < 256 → octets2 (a * 256 + b) ≡ a ∷ b ∷ []
write2 a b ha hb =
    let x : (a * 256 + b) / 256 % 256 ≡ a = omega arith in
    let y : (a * 256 + b) % 256 ≡ b = omega arith in
    λ j. x j ∷ y j ∷ []

pub write4 : (a b c d : ℕ) → a < 256 → b < 256 → c < 256 → d < 256 → octets4 (a * 16777216 + b * 65536 + c * 256 + d) ≡ a ∷ b ∷ c ∷ d ∷ []
write4 a b c d ha hb hc hd =
    let n = a * 16777216 + b * 65536 + c * 256 + d in
    let x : n / 16777216 % 256 ≡ a = omega arith in
    let y : n / 65536 % 256 ≡ b = omega arith in
    let z : n / 256 % 256 ≡ c = omega arith in
    let w : n % 256 ≡ d = omega arith in
    λ j. x j ∷ y j ∷ z j ∷ w j ∷ []

-- what is read fits its width
pub fits4 : (xs : List ℕ) (i : ℕ) → Octets xs → number4 xs i < 4294967296
fits4 xs i h = omega (arith, h i, h (i + 1), h (i + 2), h (i + 3))

-- the n octets from place i on
abbrev pub firsts : List ℕ → ℕ → ℕ → List ℕ
firsts xs i zero = []
firsts xs i (suc n) = get_or xs i 0 ∷ firsts xs (i + 1) n

pub split : (xs : List ℕ) (i n : ℕ) → i + n ≤ length xs → drop i xs ≡ firsts xs i n ++ drop (i + n) xs
split xs i zero h = let e : i ≡ i + 0 = omega arith in ap (λ k. drop k xs) e
split xs i (suc n) h =
    let on : i + 1 + n ≡ i + suc n = omega arith in
    drop_more xs i 0 (omega arith) ∙ ap (λ z. get_or xs i 0 ∷ z) (split xs (i + 1) n (omega arith) ∙ ap (λ k. firsts xs (i + 1) n ++ drop k xs) on)

module _ (xs : List ℕ) (octets : Octets xs) where
  -- two or four octets, as the number in them is written
  pub back2 : (i n : ℕ) → number2 xs i ≡ n → octets2 n ≡ get_or xs i 0 ∷ get_or xs (i + 1) 0 ∷ []
  back2 i n e = ap octets2 (sym e) ∙ write2 (get_or xs i 0) (get_or xs (i + 1) 0) (octets i) (octets (i + 1))

  pub back4 : (i n : ℕ) → number4 xs i ≡ n → octets4 n ≡ get_or xs i 0 ∷ get_or xs (i + 1) 0 ∷ get_or xs (i + 2) 0 ∷ get_or xs (i + 3) 0 ∷ []
  back4 i n e = ap octets4 (sym e) ∙ write4 (get_or xs i 0) (get_or xs (i + 1) 0) (get_or xs (i + 2) 0) (get_or xs (i + 3) 0) (octets i) (octets (i + 1)) (octets (i + 2)) (octets (i + 3))

  -- the header of octets is that of the fields read from them
  pub header_back : 20 ≤ length xs → version_in xs ≡ 2 → options_in xs ≡ 0 → length_in xs ≡ length xs
      → header (opcode_in xs) (length xs) (request_in xs) (data_in xs) (sender_in xs) ++ drop 20 xs ≡ xs
  header_back long version options as_long =
      (λ j. (opcode_in xs ∷ version_back j ∷ (back2 2 (length xs) as_long j ++ (back4 4 (request_in xs) refl j ++ (back4 8 0 options j ++ (back4 12 (data_in xs) refl j ++ back4 16 (sender_in xs) refl j))))) ++ drop 20 xs)
      ∙ sym (split xs 0 20 long)
    where
      version_back : 2 ≡ version_in xs
      version_back = sym version
