use Rattle.std.proofs.Common.{◌≡◌, true, false, is_some, rules}
use borrow.Author.Tests.{tests}
use Rattle.std.proofs.lemmas.Iterator.{YieldsList-from_slice, IsFirst-from_position}
use Rattle.store.specs.Rows.{content}
use Rattle.store.proofs.Memory.{first_free}
use Rattle.store.proofs.lent.free_place.Goals as goal

pub returns : goal.returns
returns c =
    first_free c.args.rows.now c.position.result
    (IsFirst-from_position _ _ c.position.result (λ r. is_some (content r) ≡ false) (λ r. is_some (content r) ≡ true) c.position.ensures.ran
    (YieldsList-from_slice c.args.rows.now c.iter.ensures.rest) (λ x q k. search (rules, tests)) (λ x q k. search (rules, tests)))
