-- A number by its bits: how many are 1, those of an exclusive or, and that they determine it.
use Rattle.std.proofs.Common.{◌≡◌, ℕ, zero, suc, ◌+◌, ◌/◌, ◌%◌, ◌^◌, ◌<◌, ◌≤◌, Bool, true, false, cond, not, eqb, sym, refl, ap, ◌∙◌, add-zero, add_assoc, add-suc, div-one, arith}
use native.Mathlib.Nat.{div-div-eq-div-mul, pow-succ'}
use lib.Bits.{bit_xor, xor_shr, xor_mod}
use lib.Count.{ones, ones_step}
use Rattle.std.proofs.lemmas.Bool.Decides.{nat_tests}
use Rattle.filter.specs.Summaries.{has_value, tally}

-- counting, one by one

pub tally_same : (f g : ℕ → Bool) (n : ℕ) → ((k : ℕ) → k < n → f k ≡ g k) → tally f n ≡ tally g n
tally_same f g zero h = refl
tally_same f g (suc n) h = λ i. tally_same f g n (λ k l. h k (omega arith)) i + cond (h n (omega arith) i) 1 0

pub tally_add : (f : ℕ → Bool) (n k : ℕ) → tally f (n + k) ≡ tally f n + tally (λ j. f (n + j)) k
tally_add f n zero = ap (tally f) (add-zero n) ∙ sym (add-zero (tally f n))
tally_add f n (suc k) =
    ap (tally f) (add-suc n k)
    ∙ ap (λ t. t + cond (f (n + k)) 1 0) (tally_add f n k)
    ∙ add_assoc (tally f n) (tally (λ j. f (n + j)) k) (cond (f (n + k)) 1 0)

pub tally_le : (f : ℕ → Bool) (n : ℕ) → tally f n ≤ n
tally_le f zero = omega arith
tally_le f (suc n) = let below = tally_le f n in elim (f n) as (λ b. tally f n + cond b 1 0 ≤ suc n) [ true ↦ omega arith | false ↦ omega arith ]

tally_front : (f : ℕ → Bool) (n : ℕ) → tally f (suc n) ≡ cond (f 0) 1 0 + tally (λ j. f (suc j)) n
tally_front f zero = let e : cond (f 0) 1 0 + 0 ≡ 0 + cond (f 0) 1 0 = omega arith in sym e
tally_front f (suc n) =
    ap (λ t. t + cond (f (suc n)) 1 0) (tally_front f n)
    ∙ add_assoc (cond (f 0) 1 0) (tally (λ j. f (suc j)) n) (cond (f (suc n)) 1 0)

-- the bits of a number, from those of its half on

has_value_zero : (x : ℕ) → has_value x 0 ≡ eqb (x % 2) 1
has_value_zero x = ap (λ n. eqb (n % 2) 1) (div-one x)

has_value_suc : (x k : ℕ) → has_value x (suc k) ≡ has_value (x / 2) k
has_value_suc x k = ap (λ n. eqb (n % 2) 1) (ap (λ d. x / d) (pow-succ' 2 k) ∙ sym (div-div-eq-div-mul x 2 (2 ^ k)))

parity : (x : ℕ) → cond (eqb (x % 2) 1) 1 0 ≡ x % 2
parity x = grind (arith, nat_tests)

-- the ones of a number of w bits are its bits that are 1
pub ones_tally : (w x : ℕ) → x < 2 ^ w → ones x ≡ tally (has_value x) w
unfolding ones
ones_tally zero x h = let z : x ≡ 0 = omega arith in ap ones z
ones_tally (suc w) x h =
    let half : x / 2 < 2 ^ w = omega (arith, pow-succ' 2 w) in
    ones_step x
    ∙ ap (λ t. x % 2 + t) (ones_tally w (x / 2) half)
    ∙ (λ i. sym (parity x) i + tally (has_value (x / 2)) w)
    ∙ (λ i. cond (sym (has_value_zero x) i) 1 0 + tally_same (has_value (x / 2)) (λ j. has_value x (suc j)) w (λ k l. sym (has_value_suc x k)) i)
    ∙ sym (tally_front (has_value x) w)

-- a number of w bits is determined by them
pub same_values : (w x y : ℕ) → x < 2 ^ w → y < 2 ^ w → ((k : ℕ) → k < w → has_value x k ≡ has_value y k) → x ≡ y
same_values zero x y hx hy h = omega arith
same_values (suc w) x y hx hy h =
    let p = pow-succ' 2 w in
    let halves : x / 2 ≡ y / 2 =
    same_values w (x / 2) (y / 2) (omega arith) (omega arith) (λ k l. sym (has_value_suc x k) ∙ h (suc k) (omega arith) ∙ has_value_suc y k) in
    let lowest : eqb (x % 2) 1 ≡ eqb (y % 2) 1 = sym (has_value_zero x) ∙ h 0 (omega arith) ∙ has_value_zero y in
    let ends : x % 2 ≡ y % 2 = sym (parity x) ∙ ap (λ b. cond b 1 0) lowest ∙ parity y in
    omega arith

-- two bits differ where the exclusive or has a 1
low_bit : (a b : ℕ) → a < 2 → b < 2 → eqb (bit_xor a b) 1 ≡ cond (eqb a 1) (not (eqb b 1)) (eqb b 1)
low_bit zero zero ha hb = refl
low_bit zero (suc zero) ha hb = refl
low_bit zero (suc (suc b)) ha hb = absurd (omega arith)
low_bit (suc zero) zero ha hb = refl
low_bit (suc zero) (suc zero) ha hb = refl
low_bit (suc zero) (suc (suc b)) ha hb = absurd (omega arith)
low_bit (suc (suc a)) b ha hb = absurd (omega arith)

pub xor_value : (a b k : ℕ) → has_value (bit_xor a b) k ≡ cond (has_value a k) (not (has_value b k)) (has_value b k)
xor_value a b k =
    let x = a / 2 ^ k in
    let y = b / 2 ^ k in
    ap (λ n. eqb (n % 2) 1) (xor_shr a b k)
    ∙ ap (λ n. eqb n 1) (xor_mod x y 1)
    ∙ low_bit (x % 2) (y % 2) (omega arith) (omega arith)
