use Rattle.store.specs.Rows.{contents}
use Rattle.store.proofs.Linking.{finds}
use Rattle.store.proofs.index.impls.HashedIndexStore.find.Goals as goal

pub returns : goal.returns
returns c =
    let s = c.args.self.now in
    finds (contents s.parts.rows.now) s.parts.cells.now c.args.name.now s.reaches c.search.result.place c.search.result.looked c.search.ensures
