-- What the rows in memory stand for.
use Rattle.std.specs.Prelude.{ℕ, List, [], map, take, Some, None, Option}
use Rattle.store.specs.declared.records.Record.{Record}
use Rattle.store.specs.declared.row.Row.{Row}
use Rattle.store.specs.declared.row.Stored.{Stored}
use Rattle.store.specs.Contents.{Content, Contents}

-- a record as it is given
abbrev pub given : Record → Content
given r = record { name = r.name.now; size = r.size; cost = r.cost }

-- a record as it is stored
abbrev pub stored : Stored → Content
stored r = record { name = take r.len r.name; size = r.size; cost = r.cost }

abbrev pub stored_if : Option Stored → Option Content
stored_if None = None
stored_if (Some r) = Some (stored r)

-- the record in a row that is used, and none in one that is free
abbrev pub content : Row → Option Content
content r = stored_if r.stored

abbrev pub contents : List Row → Contents
contents rows = map content rows

-- the name, the size and the cost of a record, and none, 0 and 0 where there is none

abbrev pub name_in : Option Content → List ℕ
name_in None = []
name_in (Some c) = c.name

abbrev pub size_in : Option Content → ℕ
size_in None = 0
size_in (Some c) = c.size

abbrev pub cost_in : Option Content → ℕ
cost_in None = 0
cost_in (Some c) = c.cost
