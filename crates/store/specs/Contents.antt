-- What a store holds: at each of its places a row, or none.
use Rattle.std.specs.Prelude.{◌≡◌, ℕ, ◌<◌, ◌≤◌, List, length, Some, None, Option, ◌≢◌, slice_index, slice_index_or, slice_set}

-- a row: the name, the size and the cost of a record
pub record Content : Type 0 where
  pub name : List ℕ
  pub size : ℕ
  pub cost : ℕ

-- a store by its places
abbrev pub Contents : Type 0
Contents = List (Option Content)

-- rows of one name stand at i and j
pub record Alike (rows : Contents) (i j : ℕ) : Type 0 where
  pub first : Content
  pub second : Content
  pub at_i : slice_index_or rows i None ≡ Some first
  pub at_j : slice_index_or rows j None ≡ Some second
  pub same : first.name ≡ second.name

-- no name stands at two places
abbrev pub Unique : Contents → Type 0
Unique rows = (i j : ℕ) → Alike rows i j → i ≡ j

-- there is a row, and it has this name
abbrev pub Bears : Option Content → List ℕ → Type 0
Bears None name = ⊥
Bears (Some c) name = c.name ≡ name

-- the row at a place has this name
pub record Named (rows : Contents) (place : ℕ) (name : List ℕ) : Type 0 where
  pub row : Content
  pub here : slice_index_or rows place None ≡ Some row
  pub is : row.name ≡ name

-- no row has this name
abbrev pub Absent : Contents → List ℕ → Type 0
Absent rows name = (i : ℕ) (c : Content) → slice_index_or rows i None ≡ Some c → c.name ≢ name

-- a row stands at a place
pub record Held (rows : Contents) (place : ℕ) : Type 0 where
  pub within : place < length rows
  pub row : Content
  pub here : slice_index_or rows place None ≡ Some row

-- a place is free
pub record Free (rows : Contents) (place : ℕ) : Type 0 where
  pub within : place < length rows
  pub empty : slice_index_or rows place None ≡ None

-- a name has 1 to 128 octets, none of them zero
pub record GoodName (name : List ℕ) : Type 0 where
  pub some : 1 ≤ length name
  pub short : length name ≤ 128
  pub nonzero : (i : ℕ) → i < length name → 1 ≤ slice_index name i

-- a size is 1 to 16,777,216, and a cost 1 to 65,535
pub record GoodWorth (size cost : ℕ) : Type 0 where
  pub size_some : 1 ≤ size
  pub size_most : size ≤ 16777216
  pub cost_some : 1 ≤ cost
  pub cost_most : cost ≤ 65535

-- a record that may be held
pub record Good (c : Content) : Type 0 where
  pub named : GoodName c.name
  pub worth : GoodWorth c.size c.cost

-- a good record, whose name is absent, may be added at a place that is free
pub record Addable (rows : Contents) (c : Content) (place : ℕ) : Type 0 where
  pub good : Good c
  pub absent : Absent rows c.name
  pub free : Free rows place

-- no place is free, the record is bad, or its name is held
abbrev pub Unaddable : Contents → Content → Type 0
Unaddable rows c = (place : ℕ) → Addable rows c place → ⊥

-- a record that may be added at a place came there, and nothing else changed
pub record Added (before : Contents) (c : Content) (place : ℕ) (after : Contents) : Type 0 where
  pub may : Addable before c place
  pub after_is : after ≡ slice_set before place (Some c)
