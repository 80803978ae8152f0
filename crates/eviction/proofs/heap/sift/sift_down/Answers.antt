use Rattle.eviction.proofs.Sifting as sifts
use Rattle.std.proofs.lemmas.List.Sorted.{IsPermutation-refl, IsPermutation-trans}
use Rattle.std.proofs.Common.{arith}
use Rattle.eviction.proofs.heap.sift.sift_down.Goals as goal

pub loop-at-init : goal.loop-at-init
loop-at-init g c = (IsPermutation-refl c.args.live.now, sifts.sink_begins g.R.Ord.cmp c.args.live.now c.args.at)

pub returns-then-not-is_less : goal.returns-then-not-is_less
returns-then-not-is_less g c =
    let l = c.loop-at in
    record { shuffled = l.invariant.0; sinks = sifts.sink_rests g.R.Ord.cmp g.met.R.Ord.total c.args.live.now l.live c.args.at l.at c.least_child-child.result c.least_child-child.ensures.best c.if-not-is_less.ensures l.invariant.1 }

pub loop-at-preserved : goal.loop-at-preserved
loop-at-preserved g c =
    let l = c.loop-at in
    let xs = c.args.live.now in
    let ys = l.live in
    let zs = c.swap.new.self in
    let told = c.swap.ensures in
    let child = c.least_child-child.result in
    let best = c.least_child-child.ensures in
    (IsPermutation-trans xs ys zs l.invariant.0 told.permutation, sifts.sink_steps g.R.Ord.cmp g.met.R.Ord.total xs ys zs c.args.at l.at child best.bound.1 best.bound.2 best.bound.0 told.len (told.by_index.0, told.by_index.1, told.by_index.2) best.best c.if-not-is_less.ensures l.invariant.1)

pub returns : goal.returns
returns g c =
    let l = c.loop-at in
    record { shuffled = l.invariant.0; sinks = sifts.sink_ends g.R.Ord.cmp c.args.live.now l.live c.args.at l.at (omega arith) l.invariant.1 }
