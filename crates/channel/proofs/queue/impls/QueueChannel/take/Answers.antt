use Rattle.std.proofs.Common.{sym, ap, subst}
use Rattle.channel.specs.Letters.{letter, Waits}
use Rattle.channel.proofs.Waiting.{oldest, none_new, waits_between}
use Rattle.channel.proofs.queue.impls.QueueChannel.take.Goals as goal

pub returns-in-Some : goal.returns-in-Some
returns-in-Some c =
    let q = c.args.self.now in
    let out = oldest _ _ _ _ _ c.in-Some.ensures c.take_at.ensures.2 in
    let sent = letter c.args.house _ in
    let here = subst (λ all. Waits all sent) (sym out.here) (waits_between out.older out.newer sent) in
    record {
      allowed = (c.in_ok-check_taker.ensures, c.take_at.ensures.0);
      exactly = (out, c.take_at.ensures.1);
      nothing_else = (
        record {
          answers = (q.fitting sent here, here);
          none_new = λ x w. subst (λ all. Waits all x) (sym out.here) (none_new out.older out.newer sent x (subst (λ all. Waits all x) out.left w));
        },
        ap (λ s. s.positions) c.take_at.ensures.1,
      );
    }
