use Rattle.std.proofs.Common.{◌+◌, subst, rules}
use borrow.Author.Tests.{tests}
use Rattle.store.specs.Rows.{contents}
use Rattle.store.specs.Search.{Search}
use Rattle.store.proofs.Searches.{stopped, never_stopped}
use Rattle.store.proofs.parts.Parts.search.Goals as goal

pub returns-in-Some : goal.returns-in-Some
returns-in-Some c =
    let rows = contents c.args.self.now.rows.now in
    let cells = c.args.self.now.cells.now in
    let name = c.args.name.now in
    let steps = c.in-Some.stop.steps in
    subst (λ p. Search rows cells name p (steps + 1)) (search rules) (stopped rows cells name _ steps c.in-Some.ensures.0 (λ x b p. search (rules, tests)))

pub returns-in-None : goal.returns-in-None
returns-in-None c = never_stopped _ _ _ _ c.in-None.ensures (λ x b p. search (rules, tests))
