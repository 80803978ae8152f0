use Rattle.std.proofs.Common.{◌≡◌, ◌-◌, length, drop}
use Rattle.filter.proofs.Octets.{packed}
use Rattle.filter.proofs.counters.methods.pack.Given as goal

abbrev pub invariant-loop-count : goal.invariant-loop-count
invariant-loop-count l = record {
  can : (goal.iterator-loop-count).can_next l.count-iterator;
  finite : (goal.iterator-loop-count).is_finite l.count-iterator;
  packed : l.octet ≡ packed (drop (8 - length l.yielded) l.counters);
}
