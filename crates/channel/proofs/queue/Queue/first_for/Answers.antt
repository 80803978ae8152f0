use Rattle.std.proofs.Common.{◌≡◌, take, vec_items, rules}
use borrow.Author.Tests.{tests}
use Rattle.std.proofs.lemmas.Iterator.{YieldsList-from_slice, IsFirst-from_position}
use Rattle.channel.proofs.Queueing.{first_in}
use Rattle.channel.proofs.queue.Queue.first_for.Goals as goal

pub returns : goal.returns
returns c =
    let q = c.args.self.now in
    let house = c.args.house in
    let waiting = take q.count (vec_items q.slots) in
    first_in house waiting c.position.result
    (IsFirst-from_position _ _ c.position.result (λ x. x.to ≡ house) (λ x. x.to ≡ house → ⊥) c.position.ensures.ran
    (YieldsList-from_slice waiting (search rules)) (λ x r k. search (rules, tests)) (λ x r k. search (rules, tests)))
