use Rattle.eviction.proofs.Sifting as sifts
use Rattle.std.specs.List.Sorted.{IsPermutation}
use Rattle.std.proofs.Common.{◌-◌, length}
use Rattle.eviction.proofs.heap.sift.sift_down.Given as goal

abbrev pub invariant-loop-at : goal.invariant-loop-at
invariant-loop-at g l = IsPermutation l.initial.live l.live × sifts.Sinking g.R.Ord.cmp l.initial.live l.initial.«at» l.live l.«at»

abbrev pub decreases-loop-at : goal.decreases-loop-at
decreases-loop-at g l = length l.initial.live - l.«at»
