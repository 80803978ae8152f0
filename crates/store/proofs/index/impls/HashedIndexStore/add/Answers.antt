use Rattle.std.proofs.Common.{◌≡◌, ◌≤◌, length, Some, None, sym, ap, ◌∙◌, subst, arith, rules}
use Rattle.std.proofs.lemmas.List.{length-set}
use Rattle.store.specs.declared.cell.Cell.TheVariants.{Taken}
use Rattle.store.specs.Contents.{Addable, Unique}
use Rattle.store.specs.Indexed.{Points, Once, Reaches, Paired, Open, Opens}
use Rattle.store.specs.Rows.{contents, given}
use Rattle.store.proofs.Linking.{put_points, put_once, put_reaches, put_paired, some_open, moved}
use Rattle.store.proofs.Memory as memory
use Rattle.store.proofs.Places.{unique_put}
use Rattle.store.proofs.index.impls.HashedIndexStore.add.Goals as goal

pub invariant_of-self : goal.invariant_of-self
invariant_of-self c =
    let s = c.args.self.now in
    let rows = contents s.parts.rows.now in
    let cells = s.parts.cells.now in
    let place = c.in_ok-place.place in
    let at = c.in_ok-at.at in
    let new = given c.args.new in
    let may : Addable rows new place = search rules in
    let vacant : Open cells new.name at = search rules in
    let free = may.free.empty in
    let inside = may.free.within in
    let rows_are = c.put.ensures.rows in
    let cells_are = c.put.ensures.cells in
    let long = memory.long s.parts.rows.now in
    let long' = memory.long c.put.new.self.rows.now in
    let same : length (contents c.put.new.self.rows.now) ≡ length rows = ap length rows_are ∙ length-set rows place (Some new) in
    let same' : length c.put.new.self.cells.now ≡ length cells = ap length cells_are ∙ length-set cells at (Taken place) in
    let all = s.parts.all in
    let some = s.some in
    let most = s.most in
    record {
      some = omega arith;
      most = omega arith;
      unique = subst Unique (sym rows_are) (unique_put rows place new inside may.absent s.unique);
      points = moved Points rows_are cells_are (put_points rows cells place at new all free inside vacant s.points s.once s.reaches s.paired);
      once = subst Once (sym cells_are) (put_once rows cells place at new all free inside vacant s.points s.once s.reaches s.paired);
      reaches = moved Reaches rows_are cells_are (put_reaches rows cells place at new all free inside vacant s.points s.once s.reaches s.paired);
      paired = moved Paired rows_are cells_are (put_paired rows cells place at new all free inside vacant s.points s.once s.reaches s.paired);
    }

pub returns-in_err-at-clause-rows : goal.returns-in_err-at-clause-rows
returns-in_err-at-clause-rows c =
    let s = c.args.self.now in
    let few : length (contents s.parts.rows.now) ≤ 1024 = let l = memory.long s.parts.rows.now in let most = s.most in omega arith in
    let full : Opens s.parts.cells.now c.args.new.name.now None = search rules in
    absurd (some_open (contents s.parts.rows.now) s.parts.cells.now c.args.new.name.now s.parts.all few s.paired full)
