use Rattle.std.proofs.Common.{◌<◌, vec_items, sym, refl, ap, ◌∙◌, subst, arith}
use Rattle.channel.specs.Letters.{Waits}
use Rattle.channel.specs.Queues.{queued}
use Rattle.channel.proofs.Queueing.{count_is, at, short, moved, measured_after, left_waited}
use Rattle.channel.proofs.queue.Queue.take_at.Goals as goal

pub copy_to-len-requires : goal.copy_to-len-requires
copy_to-len-requires c =
    let q = c.args.self.now in
    let count = count_is q in
    let within = c.requires.0 in
    let wide = c.requires.1 in
    let fits = short q c.args.place c.remove-slot.result (omega arith) c.remove-slot.ensures.value in
    omega arith

pub invariant_of-self : goal.invariant_of-self
invariant_of-self c =
    let q = c.args.self.now in
    let place = c.args.place in
    let slot = c.remove-slot.result in
    let without = vec_items c.remove-slot.new.self in
    let after = vec_items c.push_reserved.new.self in
    let count = count_is q in
    let most = q.most in
    let within = c.requires.0 in
    let here : place < q.count = omega arith in
    let left = moved q place slot without after here c.remove-slot.ensures.items c.push_reserved.ensures.items in
    record {
      measured = measured_after q place slot without after here c.remove-slot.ensures.value c.remove-slot.ensures.items c.push_reserved.ensures.items;
      most = omega arith;
      fitting = λ x w. q.fitting x (left_waited (queued q) place within x (subst (λ all. Waits all x) left w));
    }

pub returns : goal.returns
returns c =
    let q = c.args.self.now in
    let place = c.args.place in
    let slot = c.remove-slot.result in
    let without = vec_items c.remove-slot.new.self in
    let after = vec_items c.push_reserved.new.self in
    let count = count_is q in
    let within = c.requires.0 in
    let here : place < q.count = omega arith in (
      c.copy_to-len.ensures.0,
      refl,
      record {
        is = λ x. ap (λ l. l.octets) (at q place slot here c.remove-slot.ensures.value x) ∙ sym c.copy_to-len.ensures.1;
        left = moved q place slot without after here c.remove-slot.ensures.items c.push_reserved.ensures.items;
      },
    )
