-- What an opened update says.
use Rattle.std.specs.Prelude.{ℕ, cond, List, ◌==◌}
use Rattle.icp.specs.declared.contents.Change.{Change}
use Rattle.icp.specs.Contents.{Content, changes, whole}
use Rattle.opening.specs.declared.opened.Entries.{Entries}
use Rattle.opening.specs.declared.opened.UpdateKind.{UpdateKind}
use Rattle.opening.specs.declared.opened.UpdateKind.TheVariants.{Changes, Whole}
use Rattle.opening.specs.Reading.{entries_in}

-- how an update of this opcode gives a version
abbrev pub kind_of : ℕ → UpdateKind
kind_of op = cond (op == 20) Changes Whole

-- an update by what follows the fields of its filter
abbrev pub update_as : UpdateKind → ℕ → ℕ → List ℕ → Content
update_as Changes sender version rest = changes sender version (entries_in rest)
update_as Whole sender version rest = whole sender version rest

-- the entries that are left to read
abbrev pub entries_left : Entries → List Change
entries_left s = entries_in s.rest.now
