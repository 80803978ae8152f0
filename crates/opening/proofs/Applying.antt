-- The changes between two summaries turn the first into the second.
use Rattle.std.proofs.Common.{◌≡◌, ℕ, zero, suc, ◌+◌, ◌*◌, ◌/◌, ◌<◌, ◌≤◌, Bool, true, false, cond, not, ◌&&◌, eqb, ltb, leb, List, [], ◌∷◌, ◌++◌, sym, refl, ap, ◌∙◌, subst, inl, inr, arith}
use Rattle.std.specs.List.{AllByRecursion}
use Rattle.std.proofs.lemmas.Bool.{and_from, le-leb, lt-ltb, eq-eqb, ne_eqb, cases_eq, ltb-true, and_parts}
use Rattle.filter.specs.Summaries.{bit, differs, tally}
use Rattle.icp.specs.declared.contents.Change.{Change}
use Rattle.icp.specs.Contents.{changes, whole}
use Rattle.opening.specs.Reading.{rises}
use Rattle.icp.specs.Writing.{changed, listable}
use Rattle.opening.specs.Laws.{value_after, Proper, ChangesApply, ChangesDiffer, DeclaresProperly}
use Rattle.icp.proofs.Changes.{item, length_changed}

module _ (a b : List ℕ) where
  -- an entry or none, for a position
  abbrev last : ℕ → Bool → List Change
  last n t = cond t (item a b n ∷ []) []

  after_append : (es fs : List Change) (p : ℕ) (v : Bool) → value_after (es ++ fs) p v ≡ value_after es p (value_after fs p v)
  after_append [] fs p v = refl
  after_append (e ∷ es) fs p v = ap (λ z. cond (eqb e.position p) e.value z) (after_append es fs p v)

  -- a position that has no entry keeps its value
  untouched : (n p : ℕ) (v : Bool) → n ≤ p → value_after (changed a b n) p v ≡ v
  untouched zero p v h = refl
  untouched (suc n) p v h =
      after_append (changed a b n) (last n (differs a b n)) p v ∙ untouched n p (value_after (last n (differs a b n)) p v) (omega arith) ∙ past (differs a b n)
    where
      past : (t : Bool) → value_after (last n t) p v ≡ v
      past true = ap (λ t. cond t (bit b n) v) (ne_eqb n p (λ e. omega arith))
      past false = refl

  -- the position of an entry has its value
  touched : (n : ℕ) → value_after (last n (differs a b n)) n (bit a n) ≡ bit b n
  touched n = by (bit a n) (bit b n) refl
    where
      by : (x y : Bool) → y ≡ bit b n → value_after (last n (cond x (not y) y)) n x ≡ y
      by true true e = refl
      by true false e = ap (λ t. cond t (bit b n) true) (eq-eqb n n refl) ∙ sym e
      by false true e = ap (λ t. cond t (bit b n) false) (eq-eqb n n refl) ∙ sym e
      by false false e = refl

  elsewhere : (n p : ℕ) (v t : Bool) → (n ≡ p → ⊥) → value_after (last n t) p v ≡ v
  elsewhere n p v true ne = ap (λ t. cond t (bit b n) v) (ne_eqb n p ne)
  elsewhere n p v false ne = refl

  applies : (n p : ℕ) → p < n → value_after (changed a b n) p (bit a p) ≡ bit b p
  applies zero p h = absurd (omega arith)
  applies (suc n) p h =
      after_append (changed a b n) (last n (differs a b n)) p (bit a p)
      ∙ elim (cases_eq n p) [
        | inl e ↦ untouched n p (value_after (last n (differs a b n)) p (bit a p)) (omega arith) ∙ subst (λ z. value_after (last n (differs a b n)) z (bit a z) ≡ bit b z) e (touched n)
        | inr ne ↦ ap (value_after (changed a b n) p) (elsewhere n p (bit a p) (differs a b n) ne) ∙ applies n p (omega arith)
      ]

  abbrev Turns : ℕ → Change → Type 0
  Turns n e = (e.position < n) × (e.value ≡ not (bit a e.position))

  all_append : (P : Change → Type 0) (es fs : List Change) → AllByRecursion P es → AllByRecursion P fs → AllByRecursion P (es ++ fs)
  all_append P [] fs x y = y
  all_append P (e ∷ es) fs x y = (x.0, all_append P es fs x.1 y)

  all_more : (n : ℕ) (es : List Change) → AllByRecursion (Turns n) es → AllByRecursion (Turns (suc n)) es
  all_more n [] x = tt
  all_more n (e ∷ es) x = ((let h = x.0.0 in omega arith, x.0.1), all_more n es x.1)

  -- where they differ, the second has what the first has not
  turned : (x y : Bool) → cond x (not y) y ≡ true → y ≡ not x
  turned true true e = sym e
  turned true false e = refl
  turned false true e = refl
  turned false false e = e

  differ : (n : ℕ) → AllByRecursion (Turns n) (changed a b n)
  differ zero = tt
  differ (suc n) = all_append (Turns (suc n)) (changed a b n) (last n (differs a b n)) (all_more n (changed a b n) (differ n)) (here (differs a b n) refl)
    where
      here : (t : Bool) → differs a b n ≡ t → AllByRecursion (Turns (suc n)) (last n t)
      here true e = ((omega arith, turned (bit a n) (bit b n) e), tt)
      here false e = tt

  -- the entries rise

  rises_append : (m low n : ℕ) (es fs : List Change) → rises m low es ≡ true → AllByRecursion (λ e. e.position < n) es → low ≤ n → ((l : ℕ) → l ≤ n → rises m l fs ≡ true) → rises m low (es ++ fs) ≡ true
  rises_append m low n [] fs r x h s = s low h
  rises_append m low n (e ∷ es) fs r x h s =
      let p = and_parts (leb low e.position && ltb e.position m) (rises m (e.position + 1) es) r in
      let below = x.0 in
      and_from (leb low e.position && ltb e.position m) (rises m (e.position + 1) (es ++ fs)) p.0 (rises_append m (e.position + 1) n es fs p.1 x.1 (omega arith) s)

  all_below : (n : ℕ) (es : List Change) → AllByRecursion (Turns n) es → AllByRecursion (λ e. e.position < n) es
  all_below n [] x = tt
  all_below n (e ∷ es) x = (x.0.0, all_below n es x.1)

  rising : (m n : ℕ) → n ≤ m → rises m 0 (changed a b n) ≡ true
  rising m zero h = refl
  rising m (suc n) h =
      rises_append m 0 n (changed a b n) (last n (differs a b n)) (rising m n (omega arith)) (all_below n (changed a b n) (differ n)) (omega arith) (λ l k. one l k (differs a b n))
    where
      one : (l : ℕ) → l ≤ n → (t : Bool) → rises m l (last n t) ≡ true
      one l k true = λ j. (le-leb l n k j && lt-ltb n m h j) && true
      one l k false = refl

pub changes_apply : ChangesApply
changes_apply a b m p h = applies a b m p h

pub changes_differ : ChangesDiffer
changes_differ a b m = differ a b m

pub declares_properly : DeclaresProperly
declares_properly o s earlier a b sib fits sum =
    by (listable o.size.positions o.size.positions a b) refl
  where
    by : (t : Bool) → listable o.size.positions o.size.positions a b ≡ t → Proper o (cond t (changes s (earlier + 1) (changed a b o.size.positions)) (whole s (earlier + 1) b))
    by true e =
        let m = o.size.positions in
        let few = ltb-true (4 * tally (differs a b) m) (m / 8) (and_parts (eqb m m) (ltb (4 * tally (differs a b) m) (m / 8)) e).1 in
        (sib, record { some = omega arith; fits = fits }, record { few = (let l = length_changed a b m in omega arith); rising = rising a b m m (omega arith) })
    by false e = (sib, record { some = omega arith; fits = fits }, sum)
