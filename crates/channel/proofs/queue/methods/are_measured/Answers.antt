use Rattle.std.proofs.Common.{◌≡◌, rules}
use borrow.Author.Tests.{tests}
use Rattle.std.proofs.lemmas.Iterator.{YieldsList-from_slice, cases_from_all}
use Rattle.channel.specs.Letters.{room}
use Rattle.channel.specs.Slots.{space}
use Rattle.channel.proofs.Slotting.{all_measured}
use Rattle.channel.proofs.queue.methods.are_measured.Goals as goal

pub returns-then-all_there : goal.returns-then-all_there
returns-then-all_there c =
    let r = room c.args.size.positions in
    all_measured c.args.size.positions c.args.slots.now c.all.result (search rules)
    (cases_from_all _ _ c.all.result (λ x. space x ≡ r) (λ x. space x ≡ r → ⊥) c.all.ensures.ran
    (YieldsList-from_slice c.args.slots.now (search rules)) (λ x q k. search (rules, tests)) (λ x q k. search (rules, tests)))
