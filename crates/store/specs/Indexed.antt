-- What ties the cells of a hashed index to its rows.
use Rattle.std.specs.Prelude.{◌≡◌, ℕ, ◌+◌, ◌%◌, ◌<◌, Bool, true, false, List, is_some, Some, None, count_by, Option, ◌≢◌, slice_index_or, slice_set}
use Rattle.store.specs.declared.cell.Cell.{Cell}
use Rattle.store.specs.declared.cell.Cell.TheVariants.{Never, Freed, Taken}
use Rattle.store.specs.Contents.{Content, Contents}
use Rattle.store.specs.Search.{start, cell}

-- a cell with a place in it has a row there
abbrev pub Points : Contents → List Cell → Type 0
Points rows cells = (p i : ℕ) → slice_index_or cells p Never ≡ Taken i → is_some (slice_index_or rows i None) ≡ true

-- one place is in the cells p and q
pub record Doubled (cells : List Cell) (p q : ℕ) : Type 0 where
  pub place : ℕ
  pub at_p : slice_index_or cells p Never ≡ Taken place
  pub at_q : slice_index_or cells q Never ≡ Taken place

-- no place is in two cells
abbrev pub Once : List Cell → Type 0
Once cells = (p q : ℕ) → Doubled cells p q → p ≡ q

-- the search for a name comes to the cell of place i, and to no cell before that was never used
pub record Reached (cells : List Cell) (name : List ℕ) (i : ℕ) : Type 0 where
  pub steps : ℕ
  pub short : steps < 2048
  pub here : cell cells name steps ≡ Taken i
  pub used : (k : ℕ) → k < steps → cell cells name k ≢ Never

-- the search for each row's name comes to its cell
abbrev pub Reaches : Contents → List Cell → Type 0
Reaches rows cells = (i : ℕ) (c : Content) → slice_index_or rows i None ≡ Some c → ∥ Reached cells c.name i ∥₁

-- whether a place is in a cell
abbrev pub taken : Cell → Bool
taken Never = false
taken Freed = false
taken (Taken i) = true

-- as many cells have places in them as there are rows
abbrev pub Paired : Contents → List Cell → Type 0
Paired rows cells = count_by taken cells ≡ count_by is_some rows

pub record Open (cells : List Cell) (name : List ℕ) (at : ℕ) : Type 0 where
  pub steps : ℕ
  pub short : steps < 2048
  pub at_is : at ≡ (start name + steps) % 2048
  pub free : taken (slice_index_or cells at Never) ≡ false
  pub full : (k : ℕ) → k < steps → taken (cell cells name k) ≡ true

-- the first cell, on the way of the search for a name, that no place is in; none where all have one
abbrev pub Opens : List Cell → List ℕ → Option ℕ → Type 0
Opens cells name None = (j : ℕ) → j < 2048 → taken (cell cells name j) ≡ true
Opens cells name (Some at) = Open cells name at

-- a place went into the first cell without one, on the way of the search for a name, and no other cell changed
pub record Took (before : List Cell) (name : List ℕ) (place : ℕ) (after : List Cell) : Type 0 where
  pub at : ℕ
  pub first : Open before name at
  pub after_is : after ≡ slice_set before at (Taken place)

-- the cell of a place was freed, and no other cell changed
pub record Gave (before : List Cell) (place : ℕ) (after : List Cell) : Type 0 where
  pub at : ℕ
  pub here : slice_index_or before at Never ≡ Taken place
  pub after_is : after ≡ slice_set before at Freed
