-- The octets of a summary, by the positions that they hold.
use Rattle.std.proofs.Common.{◌≡◌, ℕ, zero, suc, ◌+◌, ◌-◌, ◌*◌, ◌/◌, ◌%◌, ◌^◌, ◌<◌, ◌≤◌, Bool, true, false, cond, not, eqb, ltb, List, [], ◌∷◌, length, get_or, drop, reverse, sym, refl, ap, ◌∙◌, div-one, arith, length-drop, pow_mono}
use native.Mathlib.Nat.{div-div-eq-div-mul, pow-succ'}
use lib.Bits.{bit_xor, xor_lt}
use lib.Count.{ones}
use mir.Val.{bool_byte}
use Rattle.std.proofs.lemmas.List.{ext_get_or, length-reverse}
use Rattle.filter.specs.Summaries.{has_value, bit, differs, tally}
use Rattle.filter.proofs.Values.{tally_same, tally_add, ones_tally, same_values, xor_value}

pub bit_at : (octets : List ℕ) (i k : ℕ) → k < 8 → bit octets (8 * i + k) ≡ has_value (get_or octets i 0) k
bit_at octets i k h =
    let octet : (8 * i + k) / 8 ≡ i = omega arith in
    let value : (8 * i + k) % 8 ≡ k = omega arith in
    λ j. has_value (get_or octets (octet j) 0) (value j)

pub differs_at : (a b : List ℕ) (i k : ℕ) → k < 8 → differs a b (8 * i + k) ≡ has_value (bit_xor (get_or a i 0) (get_or b i 0)) k
differs_at a b i k h =
    (λ j. cond (bit_at a i k h j) (not (bit_at b i k h j)) (bit_at b i k h j)) ∙ sym (xor_value (get_or a i 0) (get_or b i 0) k)

-- eight positions more, whose tests are the bits of x
pub tally_octet : (f : ℕ → Bool) (i x : ℕ) → x < 256 → ((k : ℕ) → k < 8 → f (8 * i + k) ≡ has_value x k) → tally f (8 * (i + 1)) ≡ tally f (8 * i) + ones x
tally_octet f i x h same =
    let next : 8 * (i + 1) ≡ 8 * i + 8 = omega arith in
    ap (tally f) next
    ∙ tally_add f (8 * i) 8
    ∙ ap (λ t. tally f (8 * i) + t) (tally_same (λ j. f (8 * i + j)) (has_value x) 8 same ∙ sym (ones_tally 8 x h))

-- one octet more that is counted

pub ones_more : (octets : List ℕ) (i count : ℕ) → get_or octets i 0 < 256 → count ≡ tally (bit octets) (8 * i)
    → count + ones (get_or octets i 0) ≡ tally (bit octets) (8 * (i + 1))
ones_more octets i count h e =
    ap (λ t. t + ones (get_or octets i 0)) e ∙ sym (tally_octet (bit octets) i (get_or octets i 0) h (λ k l. bit_at octets i k l))

pub differences_more : (a b : List ℕ) (i count : ℕ) → get_or a i 0 < 256 → get_or b i 0 < 256 → count ≡ tally (differs a b) (8 * i)
    → count + ones (bit_xor (get_or a i 0) (get_or b i 0)) ≡ tally (differs a b) (8 * (i + 1))
differences_more a b i count ha hb e =
    let x = bit_xor (get_or a i 0) (get_or b i 0) in
    ap (λ t. t + ones x) e ∙ sym (tally_octet (differs a b) i x (xor_lt 8 (get_or a i 0) (get_or b i 0) ha hb) (λ k l. differs_at a b i k l))

-- a summary is determined by its bits
pub same_bits : (a b : List ℕ) → length a ≡ length b → ((i : ℕ) → get_or a i 0 < 256) → ((i : ℕ) → get_or b i 0 < 256)
    → ((p : ℕ) → p < 8 * length a → bit a p ≡ bit b p) → a ≡ b
same_bits a b long ha hb same =
    ext_get_or 0 a b long
    (λ i h. same_values 8 (get_or a i 0) (get_or b i 0) (ha i) (hb i)
    (λ k l. sym (bit_at a i k l) ∙ same (8 * i + k) (omega arith) ∙ bit_at b i k l))

-- counters as an octet, the first with the value 1
abbrev pub packed : List ℕ → ℕ
packed [] = 0
packed (c ∷ cs) = 2 * packed cs + cond (ltb 0 c) 1 0

pub packed_lt : (cs : List ℕ) → packed cs < 2 ^ length cs
packed_lt [] = omega arith
packed_lt (c ∷ cs) =
    let below = packed_lt cs in
    let double = pow-succ' 2 (length cs) in
    elim (ltb 0 c) as (λ b. 2 * packed cs + cond b 1 0 < 2 ^ suc (length cs)) [ true ↦ omega arith | false ↦ omega arith ]

doubled_half : (q : ℕ) (b : Bool) → (2 * q + cond b 1 0) / 2 ≡ q
doubled_half q true = omega arith
doubled_half q false = omega arith

doubled_end : (q : ℕ) (b : Bool) → eqb ((2 * q + cond b 1 0) % 2) 1 ≡ b
doubled_end q true = let e : (2 * q + 1) % 2 ≡ 1 = omega arith in ap (λ n. eqb n 1) e
doubled_end q false = let e : (2 * q + 0) % 2 ≡ 0 = omega arith in ap (λ n. eqb n 1) e

-- the bit of each counter is 1 exactly when the counter is above 0
pub packed_value : (cs : List ℕ) (k : ℕ) → k < length cs → has_value (packed cs) k ≡ ltb 0 (get_or cs k 0)
packed_value [] k h = absurd (omega arith)
packed_value (c ∷ cs) zero h = ap (λ n. eqb (n % 2) 1) (div-one (packed (c ∷ cs))) ∙ doubled_end (packed cs) (ltb 0 c)
packed_value (c ∷ cs) (suc k) h =
    ap (λ n. eqb (n % 2) 1)
    (ap (λ d. packed (c ∷ cs) / d) (pow-succ' 2 k)
    ∙ sym (div-div-eq-div-mul (packed (c ∷ cs)) 2 (2 ^ k))
    ∙ ap (λ q. q / 2 ^ k) (doubled_half (packed cs) (ltb 0 c)))
    ∙ packed_value cs k (omega arith)

-- a flag as the code has it
pub flag_is : (b : Bool) → (bool_byte b ≡ cond b 1 0) × (bool_byte b < 2)
flag_is true = (refl, omega arith)
flag_is false = (refl, omega arith)

-- eight counters, of which i were taken from the last on, with one more to take: there is room for it
pub packed_room : (cs : List ℕ) (i : ℕ) → length cs ≡ 8 → i < length (reverse cs) → packed (drop (8 - i) cs) < 128
packed_room cs i eight more =
    let within : i < length cs = omega (arith, length-reverse cs) in
    let below = packed_lt (drop (8 - i) cs) in
    let long : length (drop (8 - i) cs) ≡ i = let e = length-drop (8 - i) cs in omega (arith, within) in
    let most : 2 ^ i ≤ 2 ^ 7 = pow_mono {j = 7} (omega (arith, within)) in
    omega (arith, ap (λ n. 2 ^ n) long)
