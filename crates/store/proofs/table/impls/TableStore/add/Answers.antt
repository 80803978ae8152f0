use Rattle.std.proofs.Common.{◌≡◌, set, Some, sym, ap, ◌∙◌, subst, arith, rules}
use Rattle.std.proofs.lemmas.List.{length-set}
use Rattle.store.specs.Contents.{Addable, Unique}
use Rattle.store.specs.Rows.{contents, given}
use Rattle.store.proofs.Memory as memory
use Rattle.store.proofs.Places.{unique_put}
use Rattle.store.proofs.table.impls.TableStore.add.Goals as goal

pub invariant_of-self : goal.invariant_of-self
invariant_of-self c =
    let rs = c.args.self.now.rows.now in
    let place = c.in_ok-place.place in
    let row = c.filled.result in
    let new = given c.args.new in
    let may : Addable (contents rs) new place = search rules in
    let same = length-set rs place row in
    let is : contents (set rs place row) ≡ set (contents rs) place (Some new) = memory.written rs place row ∙ ap (set (contents rs) place) c.filled.ensures in
    record {
      some = omega arith;
      most = omega arith;
      unique = subst Unique (sym is) (unique_put (contents rs) place new may.free.within may.absent c.args.self.now.unique);
    }

pub returns : goal.returns
returns c =
    let rs = c.args.self.now.rows.now in
    let place = c.in_ok-place.place in
    let may : Addable (contents rs) (given c.args.new) place = search rules in
    record { may = may; after_is = memory.written rs place c.filled.result ∙ ap (set (contents rs) place) c.filled.ensures }
