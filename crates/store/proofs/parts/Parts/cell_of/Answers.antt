use Rattle.std.proofs.Common.{◌≡◌, ℕ, ◌<◌, Option, get_or, sym, subst, MatchOption, rules}
use borrow.Author.Tests.{tests}
use Rattle.store.specs.declared.cell.Cell.TheVariants.{Never, Taken}
use Rattle.store.specs.Search.{cell}
use Rattle.store.proofs.Searches.{never_at}
use Rattle.store.proofs.parts.Parts.cell_of.Goals as goal

pub returns-in_err-stop : goal.returns-in_err-stop
returns-in_err-stop c =
    let cells = c.args.self.now.cells.now in
    let name = c.args.name.now in
    let place = c.args.place in
    subst (λ (o : Option ℕ). MatchOption o ((j : ℕ) → j < 2048 → cell cells name j ≡ Taken place → ⊥) (λ at. (at < 2048) × (get_or cells at Never ≡ Taken place))) (sym c.from_residual.ensures)
    (never_at cells name place _ c.in_err-stop.ensures (λ x b p. search (rules, tests)))
