use Rattle.eviction.proofs.Sifting as sifts
use Rattle.std.proofs.Common.{arith}
use Rattle.eviction.proofs.heap.sift.mend.Goals as goal
use Rattle.eviction.proofs.heap.sift.mend.Goals.{else-at-gt0-via-then-at-gt0+else-is_less, else-at-gt0-via-else-at-gt0}

pub returns-then-is_less : goal.returns-then-is_less
returns-then-is_less g c = record { shuffled = c.sift_up.ensures.shuffled; mends = sifts.mend_up g.R.Ord.cmp g.met.R.Ord.total c.args.live.now c.sift_up.new.live c.args.at (omega arith) (omega arith) c.if-is_less.ensures c.sift_up.ensures.rises }

pub returns-else-at-gt0 : goal.returns-else-at-gt0
returns-else-at-gt0 g c = record {
  shuffled = c.sift_down.ensures.shuffled;
  mends = elim c.else-at-gt0.branch [
    | else-at-gt0-via-then-at-gt0+else-is_less w ↦ sifts.mend_down g.R.Ord.cmp g.met.R.Ord.total c.args.live.now c.sift_down.new.live c.args.at w.if-is_less.ensures c.sift_down.ensures.sinks
    | else-at-gt0-via-else-at-gt0 w ↦ sifts.mend_top g.R.Ord.cmp c.args.live.now c.sift_down.new.live c.args.at (omega arith) c.sift_down.ensures.sinks
  ];
}
