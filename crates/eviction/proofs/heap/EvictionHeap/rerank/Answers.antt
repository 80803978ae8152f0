use Rattle.std.proofs.Common.{◌≡◌, ◌<◌, ◌∷◌, length, get_or, take, set, sym, refl, ap, subst, arith, length-set, take_all}
use Rattle.std.specs.List.{remove}
use Rattle.std.specs.List.Sorted.{IsPermutation}
use Rattle.std.proofs.lemmas.List.Sorted.{IsPermutation-trans, IsPermutation-sym, IsPermutation-remove, length_permutation}
use Rattle.eviction.specs.declared.heap.Entry.{Entry}
use Rattle.eviction.specs.Heaps.{Keeps}
use Rattle.eviction.specs.Sifts.{Mends}
use Rattle.eviction.proofs.Moves as moves
use Rattle.eviction.proofs.heap.EvictionHeap.rerank.Goals as goal

pub returns : goal.returns
returns g c =
    let es = c.args.entries.now in
    let m = c.args.self.now.len in
    let n = c.len-len.result in
    let at = c.in_ok-at.at in
    let found = c.in_ok-at.ensures in
    let new : Entry g.row.R.Denot = record { rank = c.args.rank; place = c.args.place } in
    let xs = take m es in
    let x = c.index-live-at.result in
    let ys = c.mend.new.live in
    let told = c.mend.ensures in
    let part = moves.part es m n c.len-len.ensures.live in
    let in' : at < length xs = omega (arith, found.0, ap length part) in
    let x-is : x ≡ get_or xs at x = subst (λ l. x ≡ get_or l at x) part c.index-live-at.is in
    let w = set xs at new in
    let same : length w ≡ length xs = length-set xs at new in
    let shuffled : IsPermutation w ys = subst (λ l. IsPermutation (set l at new) ys) part told.shuffled in
    let mends : Mends g.R.Ord.cmp w at ys = subst (λ l. Mends g.R.Ord.cmp (set l at new) at ys) part told.mends in
    let mends' : Mends g.R.Ord.cmp (take (length xs) w) at ys = subst (λ l. Mends g.R.Ord.cmp l at ys) (sym (take_all (length xs) w (omega arith))) mends in
    let long : length ys ≡ n = omega (arith, length_permutation w ys shuffled, c.len-len.ensures.live) in
    let is = moves.filled es ys m n c.len-len.ensures.live long in
    let out : IsPermutation xs (x ∷ remove xs at) = IsPermutation-remove xs at x in' x-is in
    let into : IsPermutation ys (new ∷ remove xs at) = IsPermutation-trans ys w (new ∷ remove xs at) (IsPermutation-sym w ys shuffled) (moves.placed xs at new in') in
    record {
      heap = refl {a = c.args.self.now};
      order = subst (Keeps g.R.Ord.cmp xs) (sym is) (moves.mend_keeps g.R.Ord.cmp g.met.R.Ord.total xs ys at (length xs) new (omega arith) mends');
      cases = (moves.found (take n es) at c.args.place x c.index-live-at.is found.1, (remove xs at, out, subst (λ l. IsPermutation l (new ∷ remove xs at)) (sym is) into));
    }
