-- The search of the hashed index.
use Rattle.std.specs.Prelude.{◌≡◌, ℕ, ◌+◌, ◌%◌, ◌<◌, Bool, true, false, List, Some, None, Option, slice_index, slice_index_or}
use Rattle.digest.specs.Fnv.{fnv_words}
use Rattle.store.specs.declared.cell.Cell.{Cell}
use Rattle.store.specs.declared.cell.Cell.TheVariants.{Never, Freed, Taken}
use Rattle.store.specs.Contents.{Contents, Bears}

-- the cell at which the search for a name starts: the first word of its FNV, modulo 2,048
abbrev pub start : List ℕ → ℕ
start name = slice_index (fnv_words name) 0 % 2048

-- the cell that a search comes to after j others: upward, and around
abbrev pub cell : List Cell → List ℕ → ℕ → Cell
cell cells name j = slice_index_or cells ((start name + j) % 2048) Never

-- a search goes past a freed cell, and past a row of another name
abbrev pub Passes : Contents → List ℕ → Cell → Type 0
Passes rows name Never = ⊥
Passes rows name Freed = Unit {0}
Passes rows name (Taken i) = Bears (slice_index_or rows i None) name → ⊥

-- it ends at a cell that was never used, and at a row of the name
abbrev pub Ends : Contents → List ℕ → Cell → Type 0
Ends rows name Never = Unit {0}
Ends rows name Freed = ⊥
Ends rows name (Taken i) = Bears (slice_index_or rows i None) name

-- the place in a cell
abbrev pub place_in : Cell → Option ℕ
place_in Never = None
place_in Freed = None
place_in (Taken i) = Some i

-- a test, by its answers, stops at none of the first j cells on the way of the search for a name
pub record NeverStops (stop : Cell → Bool → Type 0) (cells : List Cell) (name : List ℕ) (j : ℕ) : Type 0 where
  pub passed : (k : ℕ) → k < j → stop (cell cells name k) false

-- it stops after so many cells, and not before
pub record StopsAt (stop : Cell → Bool → Type 0) (cells : List Cell) (name : List ℕ) (steps : ℕ) : Type 0 where
  pub short : steps < 2048
  pub here : stop (cell cells name steps) true
  pub before : NeverStops stop cells name steps

-- it goes past the first j cells
abbrev pub Passed : Contents → List Cell → List ℕ → ℕ → Type 0
Passed rows cells name j = (k : ℕ) → k < j → Passes rows name (cell cells name k)

-- what a search for a name answers, and how many cells it looked at
pub data Search (rows : Contents) (cells : List Cell) (name : List ℕ) : Option ℕ → ℕ → Type 0 where
  -- it ends at the row with the name
  at_name : (j place : ℕ) → j < 2048 → cell cells name j ≡ Taken place → Bears (slice_index_or rows place None) name → Passed rows cells name j
      → Search rows cells name (Some place) (j + 1)
  -- or at a cell that was never used
  at_never : (j : ℕ) → j < 2048 → cell cells name j ≡ Never → Passed rows cells name j → Search rows cells name None (j + 1)
  -- or after all cells
  at_end : Passed rows cells name 2048 → Search rows cells name None 2048
