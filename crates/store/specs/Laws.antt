-- What the search of the hashed index promises.
use Rattle.std.specs.Prelude.{◌≡◌, ℕ, List, Option}
use Rattle.store.specs.declared.cell.Cell.{Cell}
use Rattle.store.specs.Contents.{Contents}
use Rattle.store.specs.Search.{Search}

-- what a search answers, and how many cells it looks at, is determined by rows, cells and name
abbrev pub SearchDetermined : Type 0
SearchDetermined = (rows : Contents) (cells : List Cell) (name : List ℕ) (p q : Option ℕ) (n m : ℕ) → Search rows cells name p n → Search rows cells name q m → (p ≡ q) × (n ≡ m)
