use Rattle.std.proofs.Common.{◌≡◌, set, None, sym, ap, ◌∙◌, subst, arith, rules}
use Rattle.std.proofs.lemmas.List.{length-set}
use Rattle.store.specs.Contents.{Held, Unique}
use Rattle.store.specs.Rows.{contents}
use Rattle.store.proofs.Memory as memory
use Rattle.store.proofs.Places.{unique_freed}
use Rattle.store.proofs.table.impls.TableStore.remove.Goals as goal

pub invariant_of-self : goal.invariant_of-self
invariant_of-self c =
    let rs = c.args.self.now.rows.now in
    let place = c.args.place in
    let row = c.free.result in
    let same = length-set rs place row in
    let is : contents (set rs place row) ≡ set (contents rs) place None = memory.written rs place row ∙ ap (set (contents rs) place) c.free.ensures in
    record {
      some = omega arith;
      most = omega arith;
      unique = subst Unique (sym is) (unique_freed (contents rs) place c.args.self.now.unique);
    }

pub returns : goal.returns
returns c =
    let rs = c.args.self.now.rows.now in
    let place = c.args.place in
    let held : Held (contents rs) place = search rules in
    (held, memory.written rs place c.free.result ∙ ap (set (contents rs) place) c.free.ensures)
