use Rattle.std.proofs.Common.{◌+◌, ◌*◌, arith}
use Rattle.eviction.proofs.Sifting as sifts
use Rattle.eviction.proofs.heap.sift.least_child.Goals as goal
use Rattle.eviction.proofs.heap.sift.least_child.Goals.{else-right-live-via-then-right-live+else-is_less, else-right-live-via-else-right-live}

pub returns-then-is_less : goal.returns-then-is_less
returns-then-is_less g c = record { bound = omega arith; best = sifts.right_child g.R.Ord.cmp g.met.R.Ord.total c.args.live.now c.args.at (2 * c.args.at + 1) (omega arith) c.if-is_less.ensures }

pub returns : goal.returns
returns g c = record {
  bound = omega arith;
  best = elim c.else-right-live.branch [
    | else-right-live-via-then-right-live+else-is_less w ↦ sifts.left_child g.R.Ord.cmp g.met.R.Ord.total c.args.live.now c.args.at (2 * c.args.at + 1) (omega arith) w.if-is_less.ensures
    | else-right-live-via-else-right-live w ↦ sifts.only_child g.R.Ord.cmp g.met.R.Ord.total c.args.live.now c.args.at (2 * c.args.at + 1) (omega arith) (omega arith)
  ];
}
