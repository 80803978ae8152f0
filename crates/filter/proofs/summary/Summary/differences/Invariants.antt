use Rattle.std.proofs.Common.{◌≡◌, ◌*◌, length, vec_items}
use Rattle.filter.specs.Summaries.{differs, tally}
use Rattle.filter.proofs.summary.Summary.differences.Given as goal

abbrev pub invariant-loop-one : goal.invariant-loop-one
invariant-loop-one l = record {
  can : (goal.iterator-loop-one).can_next l.one-iterator;
  finite : (goal.iterator-loop-one).is_finite l.one-iterator;
  counted : l.count ≡ tally (differs (vec_items l.self.octets) (vec_items l.other.octets)) (8 * length l.yielded);
}
