use Rattle.std.proofs.Common.{◌≡◌, ◌-◌, ◌∷◌, ◌++◌, length, take, set, sym, refl, ◌∙◌, subst, arith, length-set, length-take-le, take_all}
use borrow.Rule.Slice.PartMut.{post_of}
use Rattle.std.specs.List.Sorted.{IsPermutation}
use Rattle.std.proofs.lemmas.List.Sorted.{IsPermutation-trans, IsPermutation-cons, length_permutation}
use Rattle.std.proofs.lemmas.List.{get_or_default}
use Rattle.eviction.specs.Heaps.{Keeps}
use Rattle.eviction.proofs.Moves as moves
use Rattle.eviction.proofs.heap.sift.take_out.Goals as goal

pub returns-then-at-last : goal.returns-then-at-last
returns-then-at-last g c =
    let xs = c.args.live.now in
    let at = c.args.at in
    let k = length xs - 1 in
    let r = c.index-live-at.result in
    let v = c.index-live-last.result in
    let w = set xs at v in
    let ys = c.mend.new.live in
    let told = c.mend.ensures in
    let same : length w ≡ length xs = length-set xs at v in
    let long : length ys ≡ k = omega (arith, length_permutation (take k w) ys told.shuffled, length-take-le k w (omega arith)) in
    let is : take k (ys ++ post_of 0 k w) ≡ ys = moves.back w ys k k long (omega arith) ∙ take_all k ys (omega arith) in
    record {
      value = λ d. c.index-live-at.is ∙ get_or_default xs at r d c.requires;
      shuffled = subst (λ l. IsPermutation xs (r ∷ l)) (sym is) (IsPermutation-trans xs (r ∷ take k w) (r ∷ ys) (moves.out_shuffles xs at k r v c.requires refl c.index-live-at.is c.index-live-last.is) (IsPermutation-cons r (take k w) ys told.shuffled));
      keeps = subst (Keeps g.R.Ord.cmp xs) (sym is) (moves.mend_keeps g.R.Ord.cmp g.met.R.Ord.total xs ys at k v (omega arith) told.mends);
    }

pub returns-else-at-last : goal.returns-else-at-last
returns-else-at-last g c =
    let xs = c.args.live.now in
    let at = c.args.at in
    let k = length xs - 1 in
    let r = c.index-live-at.result in
    let v = c.index-live-last.result in
    record {
      value = λ d. c.index-live-at.is ∙ get_or_default xs at r d c.requires;
      shuffled = moves.out_shuffles xs at k r v c.requires refl c.index-live-at.is c.index-live-last.is;
      keeps = moves.end_keeps g.R.Ord.cmp xs at k v (omega arith) (omega arith);
    }
