-- The name abc, by computing.
use Rattle.std.proofs.Common.{◌≡◌, ℕ, zero, suc, ◌<◌, Bool, true, false, ◌&&◌, ltb, List, [], ◌∷◌, length, get_or, replicate, codes, sym, refl, ap, ◌∙◌, subst, inl, inr, arith}
use Rattle.std.proofs.lemmas.Bool.{and_parts, cases_eq, ltb-true}
use Rattle.digest.specs.Md5.{md5, step, block}
use Rattle.filter.specs.Positions.{names}
use Rattle.filter.specs.Counters.{raised, Issued}
use Rattle.filter.specs.Summaries.{bit, Summarizes}
use Rattle.filter.proofs.Octets.{same_bits}
use Rattle.filter.proofs.Stepping.{get_or_zeros}
use Rattle.examples.specs.Worked.{abc_positions}

pub abc_digest : md5 (codes "abc") ≡ 0x90 ∷ 0x01 ∷ 0x50 ∷ 0x98 ∷ 0x3c ∷ 0xd2 ∷ 0x4f ∷ 0xb0 ∷ 0xd6 ∷ 0x96 ∷ 0x3f ∷ 0x7d ∷ 0x28 ∷ 0xe1 ∷ 0x7f ∷ 0x72 ∷ []
unfolding step block
abc_digest = refl

pub abc_at_64 : abc_positions ≡ 24 ∷ 48 ∷ 61 ∷ 50 ∷ []
unfolding step block
abc_at_64 = refl

same : Bool → Bool → Bool
same true b = b
same false true = false
same false false = true

same_is : (a b : Bool) → same a b ≡ true → a ≡ b
unfolding same
same_is true true e = refl
same_is true false e = sym e
same_is false true e = e
same_is false false e = refl

-- a test of the positions below n that the check computes
agree : (ℕ → Bool) → (ℕ → Bool) → ℕ → Bool
agree f g zero = true
agree f g (suc n) = same (f n) (g n) && agree f g n

agree_at : (f g : ℕ → Bool) (n : ℕ) → agree f g n ≡ true → (k : ℕ) → k < n → f k ≡ g k
unfolding agree
agree_at f g zero e k h = absurd (omega arith)
agree_at f g (suc n) e k h =
    let parts = and_parts (same (f n) (g n)) (agree f g n) e in
    elim (cases_eq k n) [ inl is ↦ subst (λ j. f j ≡ g j) (sym is) (same_is (f n) (g n) parts.0) | inr not ↦ agree_at f g n parts.1 k (omega arith) ]

abc_octets : List ℕ
abc_octets = 0x00 ∷ 0x00 ∷ 0x00 ∷ 0x01 ∷ 0x00 ∷ 0x00 ∷ 0x05 ∷ 0x20 ∷ []

abc_bits : (p : ℕ) → p < 64 → ltb 0 (raised (names (24 ∷ 48 ∷ 61 ∷ 50 ∷ []) p) 0) ≡ bit abc_octets p
unfolding agree same abc_octets
abc_bits p h = agree_at (λ q. ltb 0 (raised (names (24 ∷ 48 ∷ 61 ∷ 50 ∷ []) q) 0)) (bit abc_octets) 64 refl p h

-- a test of octets that the check computes
narrow : List ℕ → Bool
narrow [] = true
narrow (x ∷ xs) = ltb x 256 && narrow xs

narrow_at : (xs : List ℕ) → narrow xs ≡ true → (i : ℕ) → get_or xs i 0 < 256
unfolding narrow
narrow_at [] e i = omega arith
narrow_at (x ∷ xs) e zero = ltb-true x 256 (and_parts (ltb x 256) (narrow xs) e).0
narrow_at (x ∷ xs) e (suc i) = narrow_at xs (and_parts (ltb x 256) (narrow xs) e).1 i

abc_narrow : (i : ℕ) → get_or abc_octets i 0 < 256
unfolding abc_octets narrow
abc_narrow i = narrow_at abc_octets refl i

pub abc_summary : (counters octets : List ℕ) → Issued abc_positions (replicate 64 0) counters → Summarizes counters octets → ((i : ℕ) → get_or octets i 0 < 256)
    → octets ≡ 0x00 ∷ 0x00 ∷ 0x00 ∷ 0x01 ∷ 0x00 ∷ 0x00 ∷ 0x05 ∷ 0x20 ∷ []
unfolding abc_octets
abc_summary counters octets s z narrow =
    let long : length octets ≡ 8 = let a = z.long in let b = s.long in omega arith in
    same_bits octets abc_octets long narrow abc_narrow
    (λ p h.
    let within : p < length counters = let a = z.long in omega arith in
    let inside : p < 64 = let b = s.long in omega arith in
    z.bits p within
    ∙ ap (ltb 0) (s.each p inside ∙ (λ i. raised (names (abc_at_64 i) p) (get_or_zeros 64 p i)))
    ∙ abc_bits p inside)
