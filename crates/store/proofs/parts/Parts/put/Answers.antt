use Rattle.std.proofs.Common.{set, refl, ap, ◌∙◌}
use Rattle.store.specs.Rows.{contents}
use Rattle.store.proofs.Memory as memory
use Rattle.store.proofs.parts.Parts.put.Goals as goal

pub returns : goal.returns
returns c =
    let rs = c.args.self.now.rows.now in
    record { rows = memory.written rs c.args.place c.filled.result ∙ ap (set (contents rs) c.args.place) c.filled.ensures; cells = refl }
