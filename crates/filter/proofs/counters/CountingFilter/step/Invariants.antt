use Rattle.std.proofs.Common.{◌≡◌, take, vec_items}
use Rattle.filter.specs.Counters.{Changed}
use Rattle.filter.proofs.counters.CountingFilter.step.Given as goal

abbrev pub invariant-loop-place : goal.invariant-loop-place
invariant-loop-place g l = record {
  same_size : l.self.size ≡ l.initial.self.size;
  changed : Changed (goal.F-post g l.step) (take l.place l.receipt.positions) (vec_items l.initial.self.counters) (vec_items l.self.counters);
}
