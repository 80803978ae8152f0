-- What a heap's operations leave, before and after the entries are sifted.
use Rattle.std.proofs.Common.{Option, MatchOption, slice_get, ◌≡◌, ℕ, zero, suc, ◌+◌, ◌-◌, ◌<◌, ◌≤◌, Bool, List, [], ◌∷◌, ◌++◌, length, get_or, take, drop, set, Ordering, sym, refl, ap, ◌∙◌, subst, arith, length-append, length-set, length-take, length-take-le, get_or-set_other, get_or-take, get_or-set_same, drop-set-lt}
use lib.Seq.{take-append-le, take-set-le}
use borrow.Rule.Slice.PartMut.{post_of}
use Rattle.std.specs.List.{remove}
use Rattle.std.specs.List.Sorted.{IsPermutation}
use Rattle.std.specs.Cmp.{IsTotalOrder, IsStrictWeakOrder}
use Rattle.std.specs.Slice.Heapsort.{IsHeapWithin}
use Rattle.std.specs.BinaryHeap.Sift.{IsHeapWithHole}
use Rattle.std.proofs.lemmas.List.Sorted.{IsPermutation-remove, IsPermutation-swap_remove}
use Rattle.std.proofs.lemmas.List.{get_or_default, get_or_append_left, take_min}
use Rattle.eviction.specs.declared.heap.Entry.{Entry}
use Rattle.eviction.specs.Heaps.{after, below, Keeps, Leads}
use Rattle.eviction.specs.Sifts.{Rises, Mends}
use Rattle.eviction.proofs.Sifting as sifts

module _ {X : Type 0} where
  -- the live ones as the part that is lent
  pub part : (es : List X) (m n : ℕ) → n ≡ length (take m es) → take n es ≡ take m es
  part es m n e = ap (λ k. take k es) (e ∙ length-take m es) ∙ take_min m es

  -- the first k of what the part came back as
  pub back : (es ys : List X) (k n : ℕ) → length ys ≡ n → k ≤ n → take k (ys ++ post_of 0 n es) ≡ take k ys
  back es ys k n e le = take-append-le k ys (post_of 0 n es) (omega arith)

  -- a part that came back without its last
  pub shorter : (es ys : List X) (n : ℕ) → n ≤ length es → length ys ≡ length (take n es) → take (n - 1) (ys ++ post_of 0 n es) ≡ take (length (take n es) - 1) ys
  shorter es ys n le e =
      let long : length (take n es) ≡ n = length-take-le n es (omega arith) in
      back es ys (n - 1) n (omega arith) (omega arith) ∙ ap (λ k. take (k - 1) ys) (sym long)

  fill : (m : ℕ) (es ys : List X) → length ys ≡ length (take m es) → take m (ys ++ drop (length (take m es)) es) ≡ ys
  fill zero es [] e = refl
  fill zero es (y ∷ ys) e = absurd (omega arith)
  fill (suc m) [] [] e = refl
  fill (suc m) [] (y ∷ ys) e = absurd (omega arith)
  fill (suc m) (x ∷ es) [] e = absurd (omega arith)
  fill (suc m) (x ∷ es) (y ∷ ys) e = ap (λ l. y ∷ l) (fill m es ys (omega arith))

  -- a part that came back as long as it was
  pub filled : (es ys : List X) (m n : ℕ) → n ≡ length (take m es) → length ys ≡ n → take m (ys ++ post_of 0 n es) ≡ ys
  filled es ys m n is e =
      ap (λ k. take m (ys ++ post_of 0 k es)) is ∙ fill m es ys (omega arith)

  pub headed : (xs : List X) (x : X) → 0 < length xs → ((d : X) → x ≡ get_or xs 0 d) → xs ≡ x ∷ drop 1 xs
  headed [] x lt e = absurd (omega arith)
  headed (y ∷ ys) x lt e = ap (λ z. z ∷ ys) (sym (e y))

  -- the last one comes to `at`
  pub out_shuffles : (xs : List X) (at k : ℕ) (r v : X) → at < length xs → k ≡ length xs - 1 → r ≡ get_or xs at r → v ≡ get_or xs k v → IsPermutation xs (r ∷ take k (set xs at v))
  out_shuffles xs at k r v lt is r-is v-is =
      let v-is' : v ≡ get_or xs (length xs - 1) r = v-is ∙ get_or_default xs k v r (omega arith) ∙ ap (λ n. get_or xs n r) is in
      subst (λ l. IsPermutation xs (r ∷ l)) (λ i. take (sym is i) (set xs at (sym v-is' i))) (IsPermutation-swap_remove xs at r lt r-is)

  -- another in the place of the element at `at`
  pub placed : (xs : List X) (at : ℕ) (v : X) → at < length xs → IsPermutation (set xs at v) (v ∷ remove xs at)
  placed xs at v lt =
      let w = set xs at v in
      let here : v ≡ get_or w at v = sym (get_or-set_same xs at v v lt) in
      let low : take at w ≡ take at xs = take-set-le at xs at v (omega arith) in
      let high : drop (suc at) w ≡ drop (suc at) xs = drop-set-lt (suc at) xs at v (omega arith) in
      subst (λ l. IsPermutation w (v ∷ l)) (λ i. low i ++ high i) (IsPermutation-remove w at v (omega (arith, length-set xs at v)) here)

  -- the element at j may be any
  gap : (lt : X → X → Bool) → IsStrictWeakOrder lt → (xs ys : List X) (j n m : ℕ) → n ≤ m → ((i : ℕ) (d : X) → i < n → (i ≡ j → ⊥) → get_or ys i d ≡ get_or xs i d) → IsHeapWithin lt xs 0 m → IsHeapWithHole lt ys j n
  gap lt o xs ys j n m le e h = (
    λ p k d a b f u v. sifts.by lt _ _ _ _ (e p d (omega arith) u) (e k d f v) (h p k d (omega arith) a b (omega arith)),
    λ p k d a b a' b' f. sifts.by lt _ _ _ _ (e p d (omega arith) (omega arith)) (e k d f (omega arith)) (o.chain _ _ _ (h p j d (omega arith) a b (omega arith)) (h j k d (omega arith) a' b' (omega arith))),
  )

  agrees : (lt : X → X → Bool) (xs ys : List X) (n m : ℕ) → n ≤ m → ((i : ℕ) (d : X) → i < n → get_or ys i d ≡ get_or xs i d) → IsHeapWithin lt xs 0 m → IsHeapWithin lt ys 0 n
  agrees lt xs ys n m le e h = λ p k d lo a b f. sifts.by lt _ _ _ _ (e p d (omega arith)) (e k d f) (h p k d lo a b (omega arith))

  other : (xs : List X) (at k : ℕ) (v : X) → (i : ℕ) (d : X) → i < k → (i ≡ at → ⊥) → get_or (take k (set xs at v)) i d ≡ get_or xs i d
  other xs at k v i d lt ne = get_or-take k (set xs at v) i d lt ∙ get_or-set_other xs at i v d ne

pub found : {K : Type 0} (xs : List (Entry K)) (at place : ℕ) (x : Entry K) → x ≡ get_or xs at x → ((d : Entry K) → (get_or xs at d).place ≡ place) → x.place ≡ place
found xs at place x is h = ap (λ e. e.place) is ∙ h x

module _ {K : Type 0} (R : K → K → Ordering) where
  -- one more at the end, and up from there
  pub put_keeps : (xs ys : List (Entry K)) (x : Entry K) → Rises R (xs ++ x ∷ []) (length xs) ys → Keeps R xs ys
  unfolding Rises
  put_keeps xs ys x rises = λ h.
      let w = xs ++ x ∷ [] in
      let n = length xs in
      let long : length w ≡ n + 1 = length-append xs (x ∷ []) in
      let low : IsHeapWithin (after (below R)) w 0 n = agrees (after (below R)) xs w n n (omega arith) (λ i d a. get_or_append_left xs (x ∷ []) d i a) h in
      rises (
        (λ p c d a b f u v. low p c d (omega arith) a b (omega arith), λ p c d a b a' b' f. absurd (omega arith)),
        λ c d a b f. absurd (omega arith),
      )

  -- the entry at `at` is another, among the first k
  pub mend_keeps : IsTotalOrder R → (xs ys : List (Entry K)) (at k : ℕ) (v : Entry K) → k ≤ length xs → Mends R (take k (set xs at v)) at ys → Keeps R xs ys
  unfolding Mends
  mend_keeps o xs ys at k v le mends = λ h.
      let w = take k (set xs at v) in
      let long : length w ≡ k = length-take-le k (set xs at v) (omega (arith, length-set xs at v)) in
      mends (gap (after (below R)) (sifts.ranks o) xs w at (length w) (length xs) (omega arith) (λ i d a b. other xs at k v i d (omega arith) b) h)

  -- the last one leaves
  pub end_keeps : (xs : List (Entry K)) (at k : ℕ) (v : Entry K) → k ≤ length xs → k ≤ at → Keeps R xs (take k (set xs at v))
  end_keeps xs at k v le end = λ h.
      let w = take k (set xs at v) in
      let long : length w ≡ k = length-take-le k (set xs at v) (omega (arith, length-set xs at v)) in
      agrees (after (below R)) xs w (length w) (length xs) (omega arith) (λ i d a. other xs at k v i d (omega arith) (omega arith)) h

  -- one is taken out of the live ones, which are the first n
  pub taken : (es ys : List (Entry K)) (m n k : ℕ) (x : Entry K) → n ≡ length (take m es) → n ≤ length es → k ≡ n - 1 → length ys ≡ length (take n es)
      → Keeps R (take n es) (take (length (take n es) - 1) ys) → IsPermutation (take n es) (x ∷ take (length (take n es) - 1) ys)
      → Keeps R (take m es) (take k (ys ++ post_of 0 n es)) × IsPermutation (take m es) (x ∷ take k (ys ++ post_of 0 n es))
  taken es ys m n k x is le less long keeps shuffled =
      let whole = ys ++ post_of 0 n es in
      let p = part es m n is in
      let s : take k whole ≡ take (length (take n es) - 1) ys = ap (λ j. take j whole) less ∙ shorter es ys n le long in (
        subst (λ l. Keeps R l (take k whole)) p (subst (Keeps R (take n es)) (sym s) keeps),
        subst (λ l. IsPermutation l (x ∷ take k whole)) p (subst (λ l. IsPermutation (take n es) (x ∷ l)) (sym s) shuffled),
      )

  -- the first is least
  pub leads : IsTotalOrder R → (xs : List (Entry K)) (x : Entry K) → ((d : Entry K) → x ≡ get_or xs 0 d) → Leads R x xs
  leads o xs x first = λ h i d lt. sifts.by (after (below R)) x (get_or xs i d) (get_or xs 0 d) (get_or xs i d) (first d) refl (sifts.top (after (below R)) (sifts.ranks o) xs (length xs) d h i i (omega arith) lt)

  pub first_leads : IsTotalOrder R → (xs : List (Entry K)) (r : Option (Entry K)) → r ≡ slice_get xs 0 → MatchOption r (xs ≡ []) (λ x. (xs ≡ x ∷ drop 1 xs) × Leads R x xs)
  first_leads o [] r e = rw e refl
  first_leads o (x ∷ xs) r e = rw e (refl, leads o (x ∷ xs) x (λ d. refl))
