-- What ties cells to rows, kept as records come and leave.
use Rattle.std.proofs.Common.{◌≡◌, ℕ, suc, ◌+◌, ◌-◌, ◌%◌, ◌<◌, ◌≤◌, Bool, true, false, cond, ◌⊎◌, List, [], ◌∷◌, length, get_or, set, is_some, Some, None, count_by, Option, sym, refl, ap, ◌∙◌, subst, inl, inr, arith, MatchOption}
use mathlib.Core.Logic.{∥∥₁_elim}
use Rattle.std.proofs.lemmas.List.Sums.{sum_by-set, sum_by-cons, count_by-le-length}
use Rattle.std.proofs.lemmas.Bool.{cases_eq, cases_lt, false≢true}
use Rattle.store.specs.declared.cell.Cell.{Cell}
use Rattle.store.specs.declared.cell.Cell.TheVariants.{Never, Freed, Taken}
use Rattle.store.specs.Contents.{Content, Contents, Absent, Named}
use Rattle.store.specs.Search.{start, cell, Passes, Passed, Search, at_name, at_never, at_end}
use Rattle.store.specs.Indexed.{Points, Once, Reached, Reaches, taken, Paired, Open, Opens}
use Rattle.store.proofs.Places.{none_some, named_at, bears_at, set_here, set_there, after_put, after_freed}
use Rattle.store.proofs.Cells.{never_taken, freed_taken, freed_never, same_place, is_taken, not_never, written_cases, written_here, written_there}

no_two : (x y : ⊥) → x ≡ y
no_two x y = absurd x

-- the search finds what is held
module _ (rows : Contents) (cells : List Cell) (name : List ℕ) (reaches : Reaches rows cells) where
  -- a held row of the name stands at a cell that the search does not pass
  caught : (i : ℕ) (c : Content) → get_or rows i None ≡ Some c → c.name ≡ name → (s : ℕ) → cell cells name s ≡ Taken i → Passes rows name (cell cells name s) → ⊥
  caught i c e n s here passes = subst (Passes rows name) here passes (bears_at rows i c name e n)

  pub nowhere : (n : ℕ) → Passed rows cells name n → (n ≡ 2048) ⊎ (cell cells name n ≡ Never) → Absent rows name
  nowhere n passed end i c e is =
      ∥∥₁_elim (reaches i c e) no_two
      (λ r.
      let there : cell cells name r.steps ≡ Taken i = subst (λ m. cell cells m r.steps ≡ Taken i) is r.here in
      let used : (k : ℕ) → k < r.steps → cell cells name k ≡ Never → ⊥ = subst (λ m. (k : ℕ) → k < r.steps → cell cells m k ≡ Never → ⊥) is r.used in
      elim (cases_lt r.steps n) [
        | inl before ↦ caught i c e is r.steps there (passed r.steps before)
        | inr after ↦
            elim end [
              | inl all ↦ let s = r.short in omega arith
              | inr never ↦
                  elim (cases_eq n r.steps) [
                    | inl same ↦ never_taken (sym never ∙ ap (cell cells name) same ∙ there)
                    | inr ne ↦ used n (omega arith) never
                  ]
            ]
      ])

  pub finds : (place : Option ℕ) (looked : ℕ) → Search rows cells name place looked → MatchOption place (Absent rows name) (λ p. Named rows p name)
  finds place looked (at_name j p short here bears passed) = named_at rows p name bears
  finds place looked (at_never j short never passed) = nowhere j passed (inr never)
  finds place looked (at_end passed) = nowhere 2048 passed (inl refl)

-- counting, when one element changes

flag : {X : Type 0} → (X → Bool) → X → ℕ
flag p x = cond (p x) 1 0

one_more : {X : Type 0} (p : X → Bool) (xs : List X) (i : ℕ) (y d : X) → i < length xs → p (get_or xs i d) ≡ false → p y ≡ true → count_by p (set xs i y) ≡ count_by p xs + 1
unfolding flag
one_more p xs i y d h was is =
    let e = sum_by-set (flag p) xs i y d h in
    let a : ◌≡◌ {A = ℕ} (flag p (get_or xs i d)) 0 = ap (λ b. cond b 1 0) was in
    let b : ◌≡◌ {A = ℕ} (flag p y) 1 = ap (λ b. cond b 1 0) is in
    omega arith

one_less : {X : Type 0} (p : X → Bool) (xs : List X) (i : ℕ) (y d : X) → i < length xs → p (get_or xs i d) ≡ true → p y ≡ false → count_by p (set xs i y) + 1 ≡ count_by p xs
unfolding flag
one_less p xs i y d h was is =
    let e = sum_by-set (flag p) xs i y d h in
    let a : ◌≡◌ {A = ℕ} (flag p (get_or xs i d)) 1 = ap (λ b. cond b 1 0) was in
    let b : ◌≡◌ {A = ℕ} (flag p y) 0 = ap (λ b. cond b 1 0) is in
    omega arith

-- every element passes
count_all : {X : Type 0} (p : X → Bool) (xs : List X) (d : X) → ((i : ℕ) → i < length xs → p (get_or xs i d) ≡ true) → count_by p xs ≡ length xs
unfolding flag
count_all p [] d h = refl
count_all p (x ∷ xs) d h =
    let e = sum_by-cons (flag p) x xs in
    let rest = count_all p xs d (λ i l. h (suc i) (omega arith)) in
    let b : ◌≡◌ {A = ℕ} (flag p x) 1 = ap (λ b. cond b 1 0) (h 0 (omega arith)) in
    omega arith

-- no element passes
count_none : {X : Type 0} (p : X → Bool) (xs : List X) (d : X) → ((i : ℕ) → i < length xs → p (get_or xs i d) ≡ false) → count_by p xs ≡ 0
unfolding flag
count_none p [] d h = refl
count_none p (x ∷ xs) d h =
    let e = sum_by-cons (flag p) x xs in
    let rest = count_none p xs d (λ i l. h (suc i) (omega arith)) in
    let b : ◌≡◌ {A = ℕ} (flag p x) 0 = ap (λ b. cond b 1 0) (h 0 (omega arith)) in
    omega arith

-- a record comes: its row was free, and so was the first cell without a place on the way to it
module _ (rows : Contents) (cells : List Cell) (place at : ℕ) (x : Content) (all : length cells ≡ 2048)
    (free : get_or rows place None ≡ None) (inside : place < length rows) (vacant : Open cells x.name at)
    (points : Points rows cells) (once : Once cells) (reaches : Reaches rows cells) (paired : Paired rows cells) where
  within : at < length cells
  within = let e = vacant.at_is in omega arith

  pub put_points : Points (set rows place (Some x)) (set cells at (Taken place))
  put_points p i e =
      elim (cases_eq i place) [
        | inl same ↦ ap is_some (ap (λ n. get_or (set rows place (Some x)) n None) same ∙ set_here rows place (Some x) inside)
        | inr other ↦
            ap is_some (set_there rows place i (Some x) other)
            ∙ elim (written_cases cells at (Taken place) within p) [
              | inl w ↦ absurd (other (same_place (sym e ∙ w.1)))
              | inr w ↦ points p i (sym w.1 ∙ e)
            ]
      ]

  -- the place was in no cell
  fresh : (p : ℕ) → get_or cells p Never ≡ Taken place → ⊥
  fresh p e = false≢true (sym (ap is_some free) ∙ points p place e)

  pub put_once : Once (set cells at (Taken place))
  put_once p q d =
      elim (written_cases cells at (Taken place) within p) [
        | inl v ↦
            elim (written_cases cells at (Taken place) within q) [
              | inl w ↦ v.0 ∙ sym w.0
              | inr w ↦ absurd (fresh q (sym w.1 ∙ d.at_q ∙ sym d.at_p ∙ v.1))
            ]
        | inr v ↦
            elim (written_cases cells at (Taken place) within q) [
              | inl w ↦ absurd (fresh p (sym v.1 ∙ d.at_p ∙ sym d.at_q ∙ w.1))
              | inr w ↦ once p q (record { place = d.place; at_p = sym v.1 ∙ d.at_p; at_q = sym w.1 ∙ d.at_q })
            ]
      ]

  -- a cell that was used is still
  still : (p : ℕ) → (get_or cells p Never ≡ Never → ⊥) → get_or (set cells at (Taken place)) p Never ≡ Never → ⊥
  still p used e = elim (written_cases cells at (Taken place) within p) [ inl w ↦ never_taken (sym e ∙ w.1) | inr w ↦ used (sym w.1 ∙ e) ]

  new_reached : Reached (set cells at (Taken place)) x.name place
  new_reached =
      record {
        steps = vacant.steps;
        short = vacant.short;
        here = ap (λ n. get_or (set cells at (Taken place)) n Never) (sym vacant.at_is) ∙ written_here cells at (Taken place) within;
        used = λ k h. still ((start x.name + k) % 2048) (not_never (cell cells x.name k) (vacant.full k h));
      }

  old_reached : (name : List ℕ) (i : ℕ) → Reached cells name i → Reached (set cells at (Taken place)) name i
  old_reached name i r =
      record {
        steps = r.steps;
        short = r.short;
        here = written_there cells at (Taken place) within ((start name + r.steps) % 2048)
            (λ same. false≢true (sym vacant.free ∙ ap (λ n. taken (get_or cells n Never)) (sym same) ∙ is_taken (cell cells name r.steps) i r.here))
            ∙ r.here;
        used = λ k h. still ((start name + k) % 2048) (r.used k h);
      }

  pub put_reaches : Reaches (set rows place (Some x)) (set cells at (Taken place))
  put_reaches i c e =
      elim (after_put rows place i x c inside e) [
        | inl new ↦ ∣ subst (λ n. Reached (set cells at (Taken place)) n i) (ap (λ (y : Content). y.name) new.1) (subst (Reached (set cells at (Taken place)) x.name) (sym new.0) new_reached) ∣₁
        | inr old ↦ ∥∥₁_elim (reaches i c old) squash₁ (λ r. ∣ old_reached c.name i r ∣₁)
      ]

  pub put_paired : Paired (set rows place (Some x)) (set cells at (Taken place))
  put_paired =
      let a = one_more taken cells at (Taken place) Never within vacant.free refl in
      let b = one_more is_some rows place (Some x) None inside (ap is_some free) refl in
      omega arith

-- a record leaves: its row and its cell are freed
module _ (rows : Contents) (cells : List Cell) (place at : ℕ) (x : Content) (held : get_or rows place None ≡ Some x) (inside : place < length rows)
    (within : at < length cells) (here : get_or cells at Never ≡ Taken place)
    (points : Points rows cells) (once : Once cells) (reaches : Reaches rows cells) (paired : Paired rows cells) where
  -- a cell with a place in it is another one, with another place
  kept : (p i : ℕ) → get_or (set cells at Freed) p Never ≡ Taken i → (get_or cells p Never ≡ Taken i) × (i ≡ place → ⊥)
  kept p i e =
      elim (written_cases cells at Freed within p) [
        | inl w ↦ absurd (freed_taken (sym w.1 ∙ e))
        | inr w ↦ (
          sym w.1 ∙ e,
          λ same. w.0 (once p at (record { place = place; at_p = sym w.1 ∙ e ∙ ap Taken same; at_q = here })),
        )
      ]

  pub freed_points : Points (set rows place None) (set cells at Freed)
  freed_points p i e = let k = kept p i e in ap is_some (set_there rows place i None k.1) ∙ points p i k.0

  pub freed_once : Once (set cells at Freed)
  freed_once p q d = once p q (record { place = d.place; at_p = (kept p d.place d.at_p).0; at_q = (kept q d.place d.at_q).0 })

  freed_reached : (name : List ℕ) (i : ℕ) → (i ≡ place → ⊥) → Reached cells name i → Reached (set cells at Freed) name i
  freed_reached name i other r =
      record {
        steps = r.steps;
        short = r.short;
        here = written_there cells at Freed within ((start name + r.steps) % 2048)
            (λ same. other (same_place (sym r.here ∙ ap (λ n. get_or cells n Never) same ∙ here)))
            ∙ r.here;
        used = λ k h e. elim (written_cases cells at Freed within ((start name + k) % 2048)) [ inl w ↦ freed_never (sym w.1 ∙ e) | inr w ↦ r.used k h (sym w.1 ∙ e) ];
      }

  pub freed_reaches : Reaches (set rows place None) (set cells at Freed)
  freed_reaches i c e =
      let other : i ≡ place → ⊥ = λ same. none_some (sym (set_here rows place None inside) ∙ ap (λ n. get_or (set rows place None) n None) (sym same) ∙ e) in
      ∥∥₁_elim (reaches i c (after_freed rows place i c e)) squash₁ (λ r. ∣ freed_reached c.name i other r ∣₁)

  pub freed_paired : Paired (set rows place None) (set cells at Freed)
  freed_paired =
      let a = one_less taken cells at Freed Never within (is_taken (get_or cells at Never) place here) refl in
      let b = one_less is_some rows place None None inside (ap is_some held) refl in
      omega arith

-- at most 1,024 of the 2,048 cells have places in them
module _ (rows : Contents) (cells : List Cell) (name : List ℕ) (all : length cells ≡ 2048) (few : length rows ≤ 1024) (paired : Paired rows cells) where
  -- the cell p on the way of the search
  way : (p : ℕ) → p < 2048 → (start name + (p + 2048 - start name) % 2048) % 2048 ≡ p
  way p h = let s : start name < 2048 = omega arith in omega arith

  pub some_open : Opens cells name None → ⊥
  some_open full =
      let each : (p : ℕ) → p < length cells → taken (get_or cells p Never) ≡ true =
      λ p h. ap (λ n. taken (get_or cells n Never)) (sym (way p (omega arith))) ∙ full ((p + 2048 - start name) % 2048) (omega arith) in
      let a = count_all taken cells Never each in
      let b = count_by-le-length is_some rows in
      omega arith

-- what holds of rows and cells holds of equal ones
pub moved : (P : Contents → List Cell → Type 0) {a b : Contents} {c d : List Cell} → a ≡ b → c ≡ d → P b d → P a c
moved P {a} {b} {c} {d} e f h = subst (λ x. P x c) (sym e) (subst (P b) (sym f) h)

-- a place that is in no cell on the way of its row's name has no row
pub unreached : (rows : Contents) (cells : List Cell) (place : ℕ) (x : Content) → get_or rows place None ≡ Some x → Reaches rows cells → (name : List ℕ) → name ≡ x.name
    → ((j : ℕ) → j < 2048 → cell cells name j ≡ Taken place → ⊥) → ⊥
unreached rows cells place x held reaches name is none =
    ∥∥₁_elim (reaches place x held) no_two (λ r. none r.steps r.short (subst (λ n. cell cells n r.steps ≡ Taken place) (sym is) r.here))
