-- Rows by their places: one more, one less, and names that stand once.
use Rattle.std.proofs.Common.{◌≡◌, ℕ, ◌<◌, ◌≤◌, false, ◌⊎◌, List, length, get_or, set, is_some, Some, None, Option, sym, refl, ap, ◌∙◌, subst, inl, inr, arith}
use Rattle.std.proofs.lemmas.List.{get_or_past, get_or-set_same, get_or-set_other, set_past}
use Rattle.std.proofs.lemmas.Bool.{cases_eq, cases_lt, false≢true}
use Rattle.store.specs.Contents.{Content, Contents, Unique, Absent, Bears, Named}

pub none_some : {X : Type 0} {x : X} → None ≡ Some x → ⊥
none_some e = let z : ◌≡◌ {A = ℕ} 0 1 = cc in absurd (omega arith)

pub none_is : {X : Type 0} (o : Option X) → is_some o ≡ false → o ≡ None
none_is None e = refl
none_is (Some x) e = absurd (false≢true (sym e))

-- the name of a row, and the row by its name
pub named_at : (rows : Contents) (i : ℕ) (name : List ℕ) → Bears (get_or rows i None) name → Named rows i name
named_at rows i name b = by (get_or rows i None) refl b
  where
    by : (o : Option Content) → get_or rows i None ≡ o → Bears o name → Named rows i name
    by None e b = absurd b
    by (Some c) e b = record { row = c; here = e; is = b }

pub bears_at : (rows : Contents) (i : ℕ) (c : Content) (name : List ℕ) → get_or rows i None ≡ Some c → c.name ≡ name → Bears (get_or rows i None) name
bears_at rows i c name e n = subst (λ o. Bears o name) (sym e) n

-- a row that is there stands within
pub within : (rows : Contents) (i : ℕ) (c : Content) → get_or rows i None ≡ Some c → i < length rows
within rows i c e = elim (cases_lt i (length rows)) [ inl h ↦ h | inr h ↦ absurd (none_some (sym (get_or_past rows i None h) ∙ e)) ]

-- what stands at a place once another row was put somewhere
pub set_here : (rows : Contents) (i : ℕ) (o : Option Content) → i < length rows → get_or (set rows i o) i None ≡ o
set_here rows i o h = get_or-set_same rows i o None h

pub set_there : (rows : Contents) (i k : ℕ) (o : Option Content) → (k ≡ i → ⊥) → get_or (set rows i o) k None ≡ get_or rows k None
set_there rows i k o ne = get_or-set_other rows i k o None ne

-- a row after a place was freed stood before, elsewhere
pub after_freed : (rows : Contents) (i k : ℕ) (c : Content) → get_or (set rows i None) k None ≡ Some c → get_or rows k None ≡ Some c
after_freed rows i k c e =
    elim (cases_eq k i) [
      | inl same ↦
          absurd
          (elim (cases_lt i (length rows)) [
            | inl h ↦ none_some (sym (set_here rows i None h) ∙ ap (λ n. get_or (set rows i None) n None) (sym same) ∙ e)
            | inr h ↦ none_some (sym (get_or_past rows k None (subst (λ n. length rows ≤ n) (sym same) h)) ∙ ap (λ l. get_or l k None) (sym (set_past rows i None h)) ∙ e)
          ])
      | inr ne ↦ sym (set_there rows i k None ne) ∙ e
    ]

-- a row after one was put at a place is that one, or stood before
pub after_put : (rows : Contents) (i k : ℕ) (x c : Content) → i < length rows → get_or (set rows i (Some x)) k None ≡ Some c → ((k ≡ i) × (x ≡ c)) ⊎ (get_or rows k None ≡ Some c)
after_put rows i k x c h e =
    elim (cases_eq k i) [
      | inl same ↦ inl (same, (let f = sym (set_here rows i (Some x) h) ∙ ap (λ n. get_or (set rows i (Some x)) n None) (sym same) ∙ e in cc))
      | inr ne ↦ inr (sym (set_there rows i k (Some x) ne) ∙ e)
    ]

pub unique_freed : (rows : Contents) (i : ℕ) → Unique rows → Unique (set rows i None)
unique_freed rows i u j k a =
    u j k (record { first = a.first; second = a.second; at_i = after_freed rows i j a.first a.at_i; at_j = after_freed rows i k a.second a.at_j; same = a.same })

pub unique_put : (rows : Contents) (i : ℕ) (x : Content) → i < length rows → Absent rows x.name → Unique rows → Unique (set rows i (Some x))
unique_put rows i x h absent u j k a =
    elim (after_put rows i j x a.first h a.at_i) [
      | inl p ↦
          elim (after_put rows i k x a.second h a.at_j) [
            | inl q ↦ p.0 ∙ sym q.0
            | inr e ↦ absurd (absent k a.second e (sym a.same ∙ ap (λ (c : Content). c.name) (sym p.1)))
          ]
      | inr d ↦
          elim (after_put rows i k x a.second h a.at_j) [
            | inl q ↦ absurd (absent j a.first d (a.same ∙ ap (λ (c : Content). c.name) (sym q.1)))
            | inr e ↦ u j k (record { first = a.first; second = a.second; at_i = d; at_j = e; same = a.same })
          ]
    ]
