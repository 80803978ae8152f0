-- Rows in memory, by what they stand for.
use Rattle.std.proofs.Common.{◌≡◌, ℕ, zero, suc, ◌<◌, ◌≤◌, true, false, List, ◌∷◌, length, get_or, set, replicate, is_some, Some, None, Option, MatchOption, sym, refl, ap, ◌∙◌, subst, arith}
use Rattle.std.proofs.lemmas.List.{length-map, get_or-map, map-set, get_or_past}
use Rattle.std.specs.List.{AllWithin, HoldsAt}
use Rattle.store.specs.declared.row.Row.{Row}
use Rattle.store.specs.Contents.{Free, Bears, Named, Absent}
use Rattle.store.specs.Rows.{content, contents}
use Rattle.store.proofs.Places.{none_is, named_at, bears_at, within}
use Rattle.std.proofs.lemmas.Bool.{false≢true}

pub long : (rs : List Row) → length (contents rs) ≡ length rs
long rs = length-map rs content

pub at : (rs : List Row) (i : ℕ) (d : Row) → i < length rs → get_or (contents rs) i None ≡ content (get_or rs i d)
at rs i d h = get_or-map content rs i d None h

pub past : (rs : List Row) (i : ℕ) → length rs ≤ i → get_or (contents rs) i None ≡ None
past rs i h = get_or_past (contents rs) i None (let e = long rs in omega arith)

pub written : (rs : List Row) (i : ℕ) (r : Row) → contents (set rs i r) ≡ set (contents rs) i (content r)
written rs i r = map-set content rs i r

-- a row that was read and is not used stands at a free place
pub is_free : (rs : List Row) (i : ℕ) (d : Row) → i < length rs → false ≡ is_some (content (get_or rs i d)) → get_or (contents rs) i None ≡ None
is_free rs i d h e = at rs i d h ∙ none_is (content (get_or rs i d)) (sym e)

-- a record of a name stands at a place
pub is_named : (rs : List Row) (i : ℕ) (d : Row) (name : List ℕ) → i < length rs → Bears (content (get_or rs i d)) name → Named (contents rs) i name
is_named rs i d name h b = named_at (contents rs) i name (subst (λ o. Bears o name) (sym (at rs i d h)) b)

-- one row, many times
pub repeated : (r : Row) (n : ℕ) → contents (replicate n r) ≡ replicate n (content r)
repeated r zero = refl
repeated r (suc n) = ap (λ l. content r ∷ l) (repeated r n)

-- a row that is free
blank : Row
blank = record { stored = None }

-- the first of the rows that is free, as the place of one
pub first_free : (rs : List Row) (r : Option ℕ)
    → MatchOption r (AllWithin (λ x. is_some (content x) ≡ true) rs 0 (length rs)) (λ i. (i < length rs) × HoldsAt (λ x. is_some (content x) ≡ false) rs i × AllWithin (λ x. is_some (content x) ≡ true) rs 0 i)
    → MatchOption r ((i : ℕ) → Free (contents rs) i → ⊥) (λ i. Free (contents rs) i)
first_free rs None h = λ i free.
    let inside : i < length rs = let l = long rs in omega (arith, free.within) in
    false≢true (sym (ap is_some free.empty) ∙ ap is_some (at rs i blank inside) ∙ h i blank (omega arith) inside)
first_free rs (Some i) h = record { within = (let l = long rs in omega (arith, h.0)); empty = is_free rs i blank h.0 (sym (h.1 blank)) }

-- the first of the rows with a name, as the place of the name
pub first_named : (rs : List Row) (name : List ℕ) (r : Option ℕ)
    → MatchOption r (AllWithin (λ x. Bears (content x) name → ⊥) rs 0 (length rs)) (λ i. (i < length rs) × HoldsAt (λ x. Bears (content x) name) rs i × AllWithin (λ x. Bears (content x) name → ⊥) rs 0 i)
    → MatchOption r (Absent (contents rs) name) (λ i. Named (contents rs) i name)
first_named rs name None h = λ i c here same.
    let inside : i < length rs = let l = long rs in let w = within (contents rs) i c here in omega arith in
    h i blank (omega arith) inside (subst (λ o. Bears o name) (at rs i blank inside) (bears_at (contents rs) i c name here same))
first_named rs name (Some i) h = is_named rs i blank name h.0 (h.1 blank)
