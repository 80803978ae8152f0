use Rattle.std.proofs.Common.{sym, ◌∙◌, rules, vec_items}
use borrow.Author.Tests.{tests}
use Rattle.std.proofs.lemmas.Iterator.{YieldsList-from_slice}
use Rattle.std.proofs.lemmas.Iterator.Search.{all_from_yields_List}
use Rattle.filter.specs.Summaries.{bit}
use Rattle.filter.proofs.Naming.{present_all}
use Rattle.filter.proofs.summary.Summary.has.Goals as goal

pub returns : goal.returns
returns c =
    let octets = vec_items c.args.self.now.octets in
    let ps = c.args.receipt.now.positions in
    all_from_yields_List (bit octets) _ _ c.all.result c.all.ensures.ran (YieldsList-from_slice ps c.iter.ensures.rest) (λ x b q k. search (rules, tests))
    ∙ sym (present_all octets ps)
