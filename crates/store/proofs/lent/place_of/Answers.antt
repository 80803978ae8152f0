use Rattle.std.proofs.Common.{rules}
use borrow.Author.Tests.{tests}
use Rattle.std.proofs.lemmas.Iterator.{YieldsList-from_slice, IsFirst-from_position}
use Rattle.store.specs.Contents.{Bears}
use Rattle.store.specs.Rows.{content}
use Rattle.store.proofs.Memory.{first_named}
use Rattle.store.proofs.lent.place_of.Goals as goal

pub returns : goal.returns
returns c =
    let name = c.args.name.now in
    first_named c.args.rows.now name c.position.result
    (IsFirst-from_position _ _ c.position.result (λ r. Bears (content r) name) (λ r. Bears (content r) name → ⊥) c.position.ensures.ran
    (YieldsList-from_slice c.args.rows.now c.iter.ensures.rest) (λ x q k. search (rules, tests)) (λ x q k. search (rules, tests)))
