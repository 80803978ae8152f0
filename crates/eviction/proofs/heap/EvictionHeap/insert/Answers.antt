use Rattle.std.proofs.Common.{◌≡◌, ◌+◌, ◌<◌, [], ◌∷◌, ◌++◌, length, take, set, sym, ◌∙◌, subst, arith, length-append, length-take-le, take_all}
use borrow.Rule.Slice.PartMut.{post_of}
use Rattle.std.specs.List.Sorted.{IsPermutation}
use Rattle.std.proofs.lemmas.List.Sorted.{IsPermutation-trans, IsPermutation-sym, IsPermutation-to_front, length_permutation}
use Rattle.std.proofs.lemmas.List.{take_more_set}
use Rattle.eviction.specs.Heaps.{Keeps}
use Rattle.eviction.specs.Sifts.{Rises}
use Rattle.eviction.proofs.Moves as moves
use Rattle.eviction.proofs.heap.EvictionHeap.insert.Goals as goal

pub returns : goal.returns
returns g c =
    let es = c.args.entries.now in
    let n = c.args.self.now.len in
    let x = c.args.entry in
    let xs = take n es in
    let put = xs ++ x ∷ [] in
    let w = set es n x in
    let ys = c.sift_up.new.live in
    let told = c.sift_up.ensures in
    let lt : n < length es = omega arith in
    let was : length xs ≡ n = length-take-le n es (omega arith) in
    let lent : take (n + 1) w ≡ put = take_more_set es n x lt in
    let shuffled : IsPermutation put ys = subst (λ l. IsPermutation l ys) lent told.shuffled in
    let rises : Rises g.R.Ord.cmp put (length xs) ys = subst (λ k. Rises g.R.Ord.cmp put k ys) (sym was) (subst (λ l. Rises g.R.Ord.cmp l n ys) lent told.rises) in
    let long : length ys ≡ n + 1 = omega (arith, length_permutation put ys shuffled, length-append xs (x ∷ [])) in
    let is : take (n + 1) (ys ++ post_of 0 (n + 1) w) ≡ ys = moves.back w ys (n + 1) (n + 1) long (omega arith) ∙ take_all (n + 1) ys (omega arith) in
    record {
      order = subst (Keeps g.R.Ord.cmp xs) (sym is) (moves.put_keeps g.R.Ord.cmp xs ys x rises);
      cases = (omega arith, subst (IsPermutation (x ∷ xs)) (sym is) (IsPermutation-trans (x ∷ xs) put ys (IsPermutation-sym put (x ∷ xs) (IsPermutation-to_front xs x)) shuffled));
    }
