use Rattle.std.proofs.Common.{◌≡◌, ℕ, ◌+◌, ◌*◌, ◌<◌, List, get_or, vec_items, vec_len, ap, ◌∙◌, arith}
use lib.Count.{ones}
use Rattle.filter.specs.Summaries.{bit, tally}
use Rattle.filter.proofs.Octets.{ones_more}
use Rattle.filter.proofs.Values.{tally_le}
use Rattle.filter.proofs.summary.Summary.ones.Goals as goal

-- the octets as the loop reads them
counted : (octets items : List ℕ) (i count : ℕ) → items ≡ octets → get_or octets i 0 < 256 → count ≡ tally (bit octets) (8 * i)
    → count + ones (get_or items i 0) ≡ tally (bit octets) (8 * (i + 1))
counted octets items i count same h e = ap (λ l. count + ones (get_or l i 0)) same ∙ ones_more octets i count h e

pub overflow_add-count : goal.overflow_add-count
overflow_add-count c =
    let s = c.args.self.now in
    let octets = vec_items s.octets in
    let i = c.loop-octet.octet-index in
    let e = counted octets c.deref-octet-items.result.now i c.loop-octet.count c.deref-octet-items.ensures.value (s.octet i) c.loop-octet.invariant in
    let below = tally_le (bit octets) (8 * (i + 1)) in
    let within : i < vec_len s.octets = omega arith in
    omega arith

pub loop-octet-preserved : goal.loop-octet-preserved
loop-octet-preserved c =
    let s = c.args.self.now in
    let octets = vec_items s.octets in
    let i = c.loop-octet.octet-index in
    counted octets c.deref-octet-items.result.now i c.loop-octet.count c.deref-octet-items.ensures.value (s.octet i) c.loop-octet.invariant
