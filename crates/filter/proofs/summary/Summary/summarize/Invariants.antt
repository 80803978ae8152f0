use Rattle.std.proofs.Common.{◌≡◌, ℕ, ◌+◌, ◌*◌, ◌<◌, ltb, get_or, vec_items}
use Rattle.filter.specs.Summaries.{has_value}
use Rattle.filter.proofs.summary.Summary.summarize.Given as goal

abbrev pub invariant-loop-at : goal.invariant-loop-at
invariant-loop-at l = record {
  octets : (j : ℕ) → j < l.at → (k : ℕ) → k < 8 → has_value (get_or l.octet-items j 0) k ≡ ltb 0 (get_or (vec_items l.filter.counters) (8 * j + k) 0);
  small : (j : ℕ) → get_or l.octet-items j 0 < 256;
}
