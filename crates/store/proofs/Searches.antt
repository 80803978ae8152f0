-- One answer to a search.
use Rattle.std.proofs.Common.{◌≡◌, ℕ, ◌+◌, ◌%◌, ◌<◌, Bool, true, false, not, Decides, List, get_or, Some, None, Option, sym, refl, ap, ◌∙◌, subst, inl, inr}
use Rattle.std.proofs.lemmas.Bool.{cases_order, false≢true, not-true, not-false}
use Rattle.store.specs.declared.cell.Cell.{Cell}
use Rattle.store.specs.declared.cell.Cell.TheVariants.{Never, Freed, Taken}
use Rattle.store.specs.Contents.{Contents, Bears}
use Rattle.store.specs.Search.{start, cell, Passes, Ends, Passed, place_in, NeverStops, StopsAt, Search, at_name, at_never, at_end}
use Rattle.store.specs.Indexed.{taken, Open, Opens}
use Rattle.store.specs.Laws.{SearchDetermined}
use Rattle.store.proofs.Cells.{never_taken, same_place}

module _ (rows : Contents) (cells : List Cell) (name : List ℕ) where
  -- a cell that ends the search
  Ending : ℕ → Type 0
  Ending j = Passes rows name (cell cells name j) → ⊥

  found_ends : (j p : ℕ) → cell cells name j ≡ Taken p → Bears (get_or rows p None) name → Ending j
  unfolding Ending
  found_ends j p e b passes = subst (Passes rows name) e passes b

  never_ends : (j : ℕ) → cell cells name j ≡ Never → Ending j
  unfolding Ending
  never_ends j e passes = subst (Passes rows name) e passes

  same_end : (j k : ℕ) → Ending j → Ending k → Passed rows cells name j → Passed rows cells name k → j ≡ k
  unfolding Ending
  same_end j k ej ek pj pk = elim (cases_order j k) [ inl same ↦ same | inr other ↦ elim other [ inl less ↦ absurd (ej (pk j less)) | inr more ↦ absurd (ek (pj k more)) ] ]

  no_end : (j : ℕ) → j < 2048 → Ending j → Passed rows cells name 2048 → ⊥
  unfolding Ending
  no_end j h e passed = e (passed j h)

  pub one_answer : (p q : Option ℕ) (n m : ℕ) → Search rows cells name p n → Search rows cells name q m → (p ≡ q) × (n ≡ m)
  one_answer p q n m (at_name j x hj ej bx pj) (at_name k y hk ek by pk) =
      let same = same_end j k (found_ends j x ej bx) (found_ends k y ek by) pj pk in
      (ap Some (same_place (sym ej ∙ ap (cell cells name) same ∙ ek)), ap (λ i. i + 1) same)
  one_answer p q n m (at_name j x hj ej bx pj) (at_never k hk ek pk) =
      let same = same_end j k (found_ends j x ej bx) (never_ends k ek) pj pk in
      absurd (never_taken (sym ek ∙ ap (cell cells name) (sym same) ∙ ej))
  one_answer p q n m (at_name j x hj ej bx pj) (at_end pk) = absurd (no_end j hj (found_ends j x ej bx) pk)
  one_answer p q n m (at_never j hj ej pj) (at_name k y hk ek by pk) =
      let same = same_end j k (never_ends j ej) (found_ends k y ek by) pj pk in
      absurd (never_taken (sym ej ∙ ap (cell cells name) same ∙ ek))
  one_answer p q n m (at_never j hj ej pj) (at_never k hk ek pk) = (refl, ap (λ i. i + 1) (same_end j k (never_ends j ej) (never_ends k ek) pj pk))
  one_answer p q n m (at_never j hj ej pj) (at_end pk) = absurd (no_end j hj (never_ends j ej) pk)
  one_answer p q n m (at_end pj) (at_name k y hk ek by pk) = absurd (no_end k hk (found_ends k y ek by) pj)
  one_answer p q n m (at_end pj) (at_never k hk ek pk) = absurd (no_end k hk (never_ends k ek) pj)
  one_answer p q n m (at_end pj) (at_end pk) = (refl, refl)

  passes_by : (x : Cell) → (Ends rows name x → ⊥) → Passes rows name x
  passes_by Never h = absurd (h tt)
  passes_by Freed h = tt
  passes_by (Taken i) h = h

  passed : (stop : Cell → Bool → Type 0) (j : ℕ) → NeverStops stop cells name j → ((x : Cell) (b : Bool) → stop x b → Decides b (Ends rows name x)) → Passed rows cells name j
  passed stop j never tells k h = passes_by (cell cells name k) (λ ends. false≢true ((tells (cell cells name k) false (never.passed k h)).1 ends))

  pub stopped : (stop : Cell → Bool → Type 0) (steps : ℕ) → StopsAt stop cells name steps → ((x : Cell) (b : Bool) → stop x b → Decides b (Ends rows name x))
      → Search rows cells name (place_in (cell cells name steps)) (steps + 1)
  stopped stop steps s tells = by (cell cells name steps) refl ((tells (cell cells name steps) true s.here).0 refl)
    where
      by : (x : Cell) → cell cells name steps ≡ x → Ends rows name x → Search rows cells name (place_in x) (steps + 1)
      by Never e ends = at_never steps s.short e (passed stop steps s.before tells)
      by Freed e ends = absurd ends
      by (Taken i) e ends = at_name steps i s.short e ends (passed stop steps s.before tells)

  pub never_stopped : (stop : Cell → Bool → Type 0) → NeverStops stop cells name 2048 → ((x : Cell) (b : Bool) → stop x b → Decides b (Ends rows name x)) → Search rows cells name None 2048
  never_stopped stop never tells = at_end (passed stop 2048 never tells)

-- the first cell without a place, where the test tells those
module _ (cells : List Cell) (name : List ℕ) (stop : Cell → Bool → Type 0) where
  pub opened : (steps at : ℕ) → StopsAt stop cells name steps → at ≡ (start name + steps) % 2048 → ((x : Cell) (b : Bool) → stop x b → b ≡ not (taken x)) → Open cells name at
  opened steps at s is tells = record {
    steps = steps;
    short = s.short;
    at_is = is;
    free = ap (λ n. taken (get_or cells n Never)) is ∙ not-true (taken (cell cells name steps)) (sym (tells (cell cells name steps) true s.here));
    full = λ k h. not-false (taken (cell cells name k)) (sym (tells (cell cells name k) false (s.before.passed k h)));
  }

  pub never_opened : NeverStops stop cells name 2048 → ((x : Cell) (b : Bool) → stop x b → b ≡ not (taken x)) → Opens cells name None
  never_opened s tells = λ j h. not-false (taken (cell cells name j)) (sym (tells (cell cells name j) false (s.passed j h)))

-- the cell of a place, where the test tells it
pub never_at : (cells : List Cell) (name : List ℕ) (place : ℕ) (stop : Cell → Bool → Type 0) → NeverStops stop cells name 2048
    → ((x : Cell) (b : Bool) → stop x b → Decides b (place_in x ≡ Some place)) → (j : ℕ) → j < 2048 → cell cells name j ≡ Taken place → ⊥
never_at cells name place stop s tells j h e = false≢true ((tells (cell cells name j) false (s.passed j h)).1 (ap place_in e))

pub determined : SearchDetermined
determined rows cells name = one_answer rows cells name
