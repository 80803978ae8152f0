use Rattle.std.proofs.Common.{◌≡◌, ℕ, ◌<◌, length, get_or, Some, None, sym, ap, ◌∙◌, subst, arith, rules}
use Rattle.std.proofs.lemmas.List.{length-set}
use Rattle.store.specs.declared.cell.Cell.TheVariants.{Never, Freed, Taken}
use Rattle.store.specs.Contents.{Held, Unique}
use Rattle.store.specs.Indexed.{Points, Once, Reaches, Paired}
use Rattle.store.specs.Search.{cell}
use Rattle.store.specs.Rows.{content, contents}
use Rattle.store.proofs.Linking.{freed_points, freed_once, freed_reaches, freed_paired, unreached, moved}
use Rattle.store.proofs.Memory as memory
use Rattle.store.proofs.Places.{unique_freed}
use Rattle.store.proofs.index.impls.HashedIndexStore.remove.Goals as goal

pub invariant_of-self : goal.invariant_of-self
invariant_of-self c =
    let s = c.args.self.now in
    let held : Held (contents s.parts.rows.now) c.args.place = search rules in
    let found : (c.in_ok-at.at < 2048) × (get_or s.parts.cells.now c.in_ok-at.at Never ≡ Taken c.args.place) = search rules in
    let rows = contents s.parts.rows.now in
    let cells = s.parts.cells.now in
    let place = c.args.place in
    let at = c.in_ok-at.at in
    let inside = held.within in
    let within : at < length cells = let short = found.0 in let all = s.parts.all in omega arith in
    let rows_are = c.release.ensures.rows in
    let cells_are = c.release.ensures.cells in
    let long = memory.long s.parts.rows.now in
    let long' = memory.long c.release.new.self.rows.now in
    let same : length (contents c.release.new.self.rows.now) ≡ length rows = ap length rows_are ∙ length-set rows place None in
    let same' : length c.release.new.self.cells.now ≡ length cells = ap length cells_are ∙ length-set cells at Freed in
    let all = s.parts.all in
    let some = s.some in
    let most = s.most in
    record {
      some = omega arith;
      most = omega arith;
      unique = subst Unique (sym rows_are) (unique_freed rows place s.unique);
      points = moved Points rows_are cells_are (freed_points rows cells place at held.row held.here inside within found.1 s.points s.once s.reaches s.paired);
      once = subst Once (sym cells_are) (freed_once rows cells place at held.row held.here inside within found.1 s.points s.once s.reaches s.paired);
      reaches = moved Reaches rows_are cells_are (freed_reaches rows cells place at held.row held.here inside within found.1 s.points s.once s.reaches s.paired);
      paired = moved Paired rows_are cells_are (freed_paired rows cells place at held.row held.here inside within found.1 s.points s.once s.reaches s.paired);
    }

pub returns-in_err-at-clause-rows : goal.returns-in_err-at-clause-rows
returns-in_err-at-clause-rows c =
    let s = c.args.self.now in
    let held : Held (contents s.parts.rows.now) c.args.place = search rules in
    let same : content c.in_ok-row.row ≡ get_or (contents s.parts.rows.now) c.args.place None = search rules in
    let is : content c.in_ok-row.row ≡ Some held.row = same ∙ held.here in
    let none : (j : ℕ) → j < 2048 → cell s.parts.cells.now c.name.result.now j ≡ Taken c.args.place → ⊥ = search rules in
    absurd
    (unreached (contents s.parts.rows.now) s.parts.cells.now c.args.place held.row held.here s.reaches c.name.result.now
    (c.name.ensures.held held.row is) none)
