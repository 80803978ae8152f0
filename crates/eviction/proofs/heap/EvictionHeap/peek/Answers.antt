use Rattle.std.proofs.Common.{slice_get, take, ap, ◌∙◌, Some}
use Rattle.eviction.proofs.Moves as moves
use Rattle.eviction.proofs.heap.EvictionHeap.peek.Goals as goal

pub returns : goal.returns
returns g c =
    let m = c.args.self.now.len in
    let es = c.args.entries.now in
    moves.first_leads g.R.Ord.cmp g.met.R.Ord.total (take m es) (Some c.in_ok-least.least.now)
    (c.in_ok-least.ensures.value ∙ ap (λ l. slice_get l 0) (moves.part es m c.len.result c.len.ensures.live))
