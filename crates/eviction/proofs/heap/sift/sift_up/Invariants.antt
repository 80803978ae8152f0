use Rattle.std.proofs.Common.{◌<◌, ◌≤◌, length}
use Rattle.std.specs.Cmp.{IsTotalOrder}
use Rattle.std.specs.List.Sorted.{IsPermutation}
use Rattle.std.proofs.HeapSift as heaps
use Rattle.eviction.proofs.Sifting.{back, back_order}
use Rattle.eviction.proofs.heap.sift.sift_up.Given as goal

abbrev pub invariant-loop-at : goal.invariant-loop-at
invariant-loop-at g l = record {
  in_range : (l.«at» ≤ l.initial.«at») × (l.«at» < length l.live);
  shuffled : IsPermutation l.initial.live l.live;
  rising : (o : IsTotalOrder g.R.Ord.cmp) → heaps.Rising (back g.R.Ord.cmp) (back_order o) l.initial.live l.initial.«at» l.live l.«at»;
}

abbrev pub decreases-loop-at : goal.decreases-loop-at
decreases-loop-at g l = l.«at»
