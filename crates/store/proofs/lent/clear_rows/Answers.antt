use Rattle.std.proofs.Common.{length, replicate, ap, ◌∙◌, rules}
use Rattle.store.specs.Rows.{contents}
use Rattle.store.proofs.Memory.{repeated}
use Rattle.store.proofs.lent.clear_rows.Goals as goal

pub returns : goal.returns
returns c =
    ap contents (c.fill.ensures.after (λ y h. search rules))
    ∙ repeated c.free.result (length c.args.rows.now)
    ∙ ap (replicate (length c.args.rows.now)) c.free.ensures
