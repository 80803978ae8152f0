use Rattle.std.proofs.Common.{sym, ap, ◌∙◌, arith}
use Rattle.opening.specs.Reading.{change}
use Rattle.opening.proofs.ChangeLists.{length_entries, entry_at}
use Rattle.opening.proofs.opened.Opened.entry.Goals as goal

pub returns-then-at-self : goal.returns-then-at-self
returns-then-at-self c =
    let xs = c.args.self.now.rest.now in
    let n = length_entries xs in
    (omega arith, entry_at xs c.args.at c.change.result c.if-at-self.true ∙ ap change (sym c.number4.ensures) ∙ sym c.change.ensures)

pub returns-else-at-self : goal.returns-else-at-self
returns-else-at-self c = let n = length_entries c.args.self.now.rest.now in omega arith
