use Rattle.eviction.proofs.Sifting as sifts
use Rattle.std.proofs.HeapSift as heaps
use Rattle.std.proofs.lemmas.List.Sorted.{IsPermutation-refl, IsPermutation-trans}
use Rattle.std.proofs.Common.{arith}
use Rattle.eviction.proofs.heap.sift.sift_up.Goals as goal

pub loop-at-init : goal.loop-at-init
loop-at-init g c = record {
  in_range = omega arith;
  shuffled = IsPermutation-refl c.args.live.now;
  rising = λ o. heaps.rise_begins (sifts.back g.R.Ord.cmp) (sifts.back_order o) c.args.live.now c.args.at;
}

pub loop-at-preserved : goal.loop-at-preserved
loop-at-preserved g c =
    let l = c.loop-at in
    let xs = c.args.live.now in
    let zs = c.swap.new.self in
    let told = c.swap.ensures in
    let up = c.loop-at-test.true in
    record {
      in_range = omega arith;
      shuffled = IsPermutation-trans xs l.live zs l.invariant.shuffled told.permutation;
      rising = λ o. heaps.rise_steps (sifts.back g.R.Ord.cmp) (sifts.back_order o) xs l.live zs c.args.at l.at up l.invariant.in_range.0 l.invariant.in_range.1 told.after c.if-not-is_less.ensures (l.invariant.rising o);
    }

pub returns-then-not-is_less : goal.returns-then-not-is_less
returns-then-not-is_less g c =
    let l = c.loop-at in
    let xs = c.args.live.now in
    let o = g.met.R.Ord.total in
    record {
      shuffled = l.invariant.shuffled;
      rises = sifts.risen g.R.Ord.cmp xs l.live c.args.at c.requires l.auto.live (heaps.rise_rests (sifts.back g.R.Ord.cmp) (sifts.back_order o) xs l.live c.args.at l.at c.if-not-is_less.ensures (l.invariant.rising o));
    }

pub returns : goal.returns
returns g c =
    let l = c.loop-at in
    let xs = c.args.live.now in
    let o = g.met.R.Ord.total in
    record {
      shuffled = l.invariant.shuffled;
      rises = sifts.risen g.R.Ord.cmp xs l.live c.args.at c.requires l.auto.live (heaps.rise_tops (sifts.back g.R.Ord.cmp) (sifts.back_order o) xs l.live c.args.at l.at (omega arith) (l.invariant.rising o));
    }
