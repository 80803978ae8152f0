-- Counters that take one step each, position by position.
use Rattle.std.proofs.Common.{◌≡◌, ℕ, zero, suc, ◌+◌, ◌<◌, ◌≤◌, Bool, true, false, ◌||◌, eqb, List, length, get_or, take, replicate, sym, refl, ap, ◌∙◌, subst, ◌⊎◌, inl, inr, arith, rules}
use Rattle.std.proofs.lemmas.Bool.Decides.{eqb_tells, nat_tests}
use Rattle.std.proofs.lemmas.Bool.{true≢false}
use Rattle.filter.specs.Positions.{names}
use Rattle.filter.specs.Counters.{Changed}
use Rattle.filter.proofs.Naming.{names_more, or_false}

pub get_or_zeros : (n p : ℕ) → get_or {A = ℕ} (replicate n 0) p 0 ≡ 0
get_or_zeros zero p = refl
get_or_zeros (suc n) zero = refl
get_or_zeros (suc n) (suc p) = get_or_zeros n p

-- whether p is the one position more, or is named without it
either : (named : Bool) (q p : ℕ) → (named || eqb q p) ≡ true → (q ≡ p) ⊎ (named ≡ true)
either named q p h =
    elim (eqb_tells q p) [
      | inl same ↦ inl same.1
      | inr other ↦ inr (sym (or_false named) ∙ (λ i. named || sym other.0 i) ∙ h)
    ]

neither : (named : Bool) (q p : ℕ) → (named || eqb q p) ≡ false → (q ≡ p → ⊥) × (named ≡ false)
neither named q p h = grind (nat_tests, rules)

module _ (change : ℕ → ℕ → Type 0) (ps : List ℕ) (i : ℕ) (within : i < length ps) where
  -- the position at place i, which does not stand before it, has a counter that changes
  pub changed_more : {before between after : List ℕ} → Changed change (take i ps) before between
      → names (take i ps) (get_or ps i 0) ≡ false
      → length after ≡ length between
      → (x y : ℕ) → change x y → x ≡ get_or between (get_or ps i 0) 0 → get_or after (get_or ps i 0) 0 ≡ y
      → ((p : ℕ) → p < length between → (get_or ps i 0 ≡ p → ⊥) → get_or after p 0 ≡ get_or between p 0)
      → Changed change (take (i + 1) ps) before after
  changed_more {before} {between} {after} s new long x y step x-is y-is elsewhere =
      let q = get_or ps i 0 in
      record {
        long = long ∙ s.long;
        named = λ p below is.
            elim (either (names (take i ps) p) q p (sym (names_more ps i p within) ∙ is)) [
              | inl same ↦
                  let below-q : q < length before = omega arith in
                  let at-q : change (get_or before q 0) (get_or after q 0) =
                  subst (λ n. change n (get_or after q 0)) (x-is ∙ s.others q below-q new) (subst (change x) (sym y-is) step) in
                  subst (λ k. change (get_or before k 0) (get_or after k 0)) same at-q
              | inr old ↦
                  let apart : q ≡ p → ⊥ = λ same. true≢false (sym old ∙ ap (names (take i ps)) (sym same) ∙ new) in
                  subst (change (get_or before p 0)) (sym (elsewhere p (omega (arith, s.long)) apart)) (s.named p below old)
            ];
        others = λ p below is.
            let n = neither (names (take i ps) p) q p (sym (names_more ps i p within) ∙ is) in
            elsewhere p (omega (arith, s.long)) n.0 ∙ s.others p below n.1;
      }

  -- the position at place i stands before it too, or has no counter
  pub changed_passed : {before after : List ℕ} → Changed change (take i ps) before after
      → (names (take i ps) (get_or ps i 0) ≡ true) ⊎ (length after ≤ get_or ps i 0)
      → Changed change (take (i + 1) ps) before after
  changed_passed {before} {after} s passed =
      let q = get_or ps i 0 in
      record {
        long = s.long;
        named = λ p below is.
            elim (either (names (take i ps) p) q p (sym (names_more ps i p within) ∙ is)) [
              | inl same ↦
                  elim passed [
                    | inl old ↦ s.named p below (ap (names (take i ps)) (sym same) ∙ old)
                    | inr past ↦ absurd (omega (arith, s.long))
                  ]
              | inr old ↦ s.named p below old
            ];
        others = λ p below is. s.others p below (neither (names (take i ps) p) q p (sym (names_more ps i p within) ∙ is)).1;
      }
