use Rattle.std.proofs.Common.{◌≡◌, ◌*◌, vec_items}
use Rattle.filter.specs.Summaries.{bit, tally}
use Rattle.filter.proofs.summary.Summary.ones.Given as goal

abbrev pub invariant-loop-octet : goal.invariant-loop-octet
invariant-loop-octet l = l.count ≡ tally (bit (vec_items l.self.octets)) (8 * l.octet-index)
