use Rattle.std.proofs.Common.{◌<◌, length, get_or, vec_items, vec_len, inl, inr, rules}
use Rattle.std.proofs.lemmas.List.{get_or_read_under}
use Rattle.filter.proofs.Stepping.{changed_more, changed_passed}
use Rattle.filter.proofs.counters.CountingFilter.step.Goals.{then-at-len+then-not-repeats, else-at-len, else-at-len-via-then-at-len+else-not-repeats, else-at-len-via-else-at-len}
use Rattle.filter.proofs.counters.CountingFilter.step.Goals as goal

pub loop-place-preserved : goal.loop-place-preserved
loop-place-preserved g c =
    let ps = c.args.receipt.now.positions in
    let i = c.loop-place.place in
    let within : i < length ps = search rules in
    let cs = c.loop-place.self.counters in
    let changed = c.loop-place.invariant.changed in
    elim c.if-at-len.branch [
      | then-at-len+then-not-repeats w ↦ record {
        same_size = search rules;
        changed = changed_more (goal.F-post g c.args.step) ps i within changed (search rules) (search rules) _ _ w.step.ensures (get_or_read_under (vec_items cs) (get_or ps i 0) (vec_len cs) w.index.result.now 0 w.index.ensures (search rules) cs.ok.0) (search rules) (λ p below apart. search rules);
      }
      | else-at-len w ↦
          elim w.else-at-len.branch [
            | else-at-len-via-then-at-len+else-not-repeats v ↦ record { same_size = search rules; changed = changed_passed (goal.F-post g c.args.step) ps i within (search rules) (inl (search rules)) }
            | else-at-len-via-else-at-len v ↦ record { same_size = search rules; changed = changed_passed (goal.F-post g c.args.step) ps i within (search rules) (inr (search rules)) }
          ]
    ]
