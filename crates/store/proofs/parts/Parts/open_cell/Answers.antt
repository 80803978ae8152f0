use Rattle.std.proofs.Common.{sym, subst, rules}
use borrow.Author.Tests.{tests}
use Rattle.store.specs.Indexed.{Opens}
use Rattle.store.proofs.Searches.{opened, never_opened}
use Rattle.store.proofs.parts.Parts.open_cell.Goals as goal

pub returns-in_err-stop : goal.returns-in_err-stop
returns-in_err-stop c =
    subst (Opens c.args.self.now.cells.now c.args.name.now) (sym c.from_residual.ensures)
    (never_opened c.args.self.now.cells.now c.args.name.now _ c.in_err-stop.ensures (λ x b p. search (rules, tests)))

pub returns : goal.returns
returns c = opened c.args.self.now.cells.now c.args.name.now _ _ _ c.in_ok-stop.ensures.0 (search rules) (λ x b p. search (rules, tests))
