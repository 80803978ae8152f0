use Rattle.std.proofs.Common.{◌<◌, [], ◌∷◌, ◌++◌, vec_items, sym, refl, ap, ◌∙◌, subst, arith}
use Rattle.channel.specs.Letters.{letter, Waits}
use Rattle.channel.specs.Queues.{queued}
use Rattle.channel.proofs.Queueing.{count_is, put, free_space}
use Rattle.channel.proofs.Slotting.{measured_set}
use Rattle.channel.proofs.Waiting.{sent_last, all_fitting}
use Rattle.channel.proofs.queue.impls.QueueChannel.send.Goals as goal

pub fill-requires : goal.fill-requires
fill-requires c =
    let q = c.args.self.now in
    let most = q.most in
    let other = c.if-self-eq-SLOTS.false in
    let fits = c.in_ok-check_letter.ensures.fitting.1 in
    let wide = free_space q c.index_mut.result.now (omega arith) c.index_mut.ensures.value in
    omega arith

pub invariant_of-self : goal.invariant_of-self
invariant_of-self c =
    let q = c.args.self.now in
    let long = q.measured.0 in
    let most = q.most in
    let other = c.if-self-eq-SLOTS.false in
    let within : q.count < 32 = omega arith in
    let slot = c.fill.new.self in
    let sent = letter c.args.to c.args.message.now in
    let is = put q slot within ∙ ap (λ x. queued q ++ (x ∷ [])) c.fill.ensures.0 in
    record {
      measured = measured_set _ (vec_items q.slots) q.count slot q.measured (omega arith) (c.fill.ensures.1 ∙ free_space q c.index_mut.result.now within c.index_mut.ensures.value);
      most = omega arith;
      fitting = λ x w. all_fitting _ (queued q) sent q.fitting c.in_ok-check_letter.ensures.fitting x (subst (λ all. Waits all x) is w);
    }

pub returns : goal.returns
returns c =
    let q = c.args.self.now in
    let most = q.most in
    let other = c.if-self-eq-SLOTS.false in
    let count = count_is q in
    let is = put q c.fill.new.self (omega arith) ∙ ap (λ x. queued q ++ (x ∷ [])) c.fill.ensures.0 in
    record {
      allowed = (c.in_ok-check_letter.ensures, λ full. other (sym count ∙ full));
      exactly = (is, refl);
      nothing_else = (λ x w. sent_last (queued q) (letter c.args.to c.args.message.now) x (subst (λ all. Waits all x) is w), refl);
    }
