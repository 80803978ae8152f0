-- What each step of a sift keeps, over any test of an order.
use Rattle.std.proofs.Common.{◌≡◌, ℕ, zero, suc, ◌+◌, ◌-◌, ◌*◌, ◌/◌, ◌<◌, ◌≤◌, Bool, true, false, ◌⊎◌, List, length, get_or, Ordering, sym, refl, ap, ◌∙◌, subst, inl, inr, arith}
use Rattle.std.specs.Ordering.{on, flip_args}
use Rattle.std.specs.Cmp.{IsTotalOrder, on_total, back_total, IsStrictWeakOrder}
use Rattle.std.specs.Slice.Heapsort.{IsHeapWithin, IsNotBelowChildren}
use Rattle.std.specs.BinaryHeap.Sift.{IsHeapWithHole, SiftsUp}
use Rattle.std.proofs.Permutation.{which}
use Rattle.std.proofs.HeapSift as heaps
use Rattle.eviction.specs.declared.heap.Entry.{Entry}
use Rattle.eviction.specs.Heaps.{after, below}
use Rattle.eviction.specs.Sifts.{Over, Tells, Best, Rises, Sinks, Mends}

cases : {A B C : Type 0} → A ⊎ B → (A → C) → (B → C) → C
cases (inl a) f g = f a
cases (inr b) f g = g b

-- ys is xs with the elements at a and b in each other's place, as `swap` says
abbrev pub Traded : {X : Type 0} → List X → List X → ℕ → ℕ → Type 0
Traded {X} xs ys a b = ((d : X) → get_or ys a d ≡ get_or xs b d) × ((d : X) → get_or ys b d ≡ get_or xs a d) × ((k : ℕ) (d : X) → (k ≡ a → ⊥) → (k ≡ b → ⊥) → get_or ys k d ≡ get_or xs k d)

module _ {X : Type 0} (lt : X → X → Bool) where
  pub by : (a b x y : X) → a ≡ x → b ≡ y → lt x y ≡ false → lt a b ≡ false
  by a b x y p q h = (λ k. lt (p k) (q k)) ∙ h

  closes : (xs : List X) (j n : ℕ) → Over lt xs j → IsHeapWithHole lt xs j n → IsNotBelowChildren lt xs j j n → IsHeapWithin lt xs 0 n
  closes xs j n over h under = λ p k d lo a b f. cases (which p j)
      (λ e. by _ _ _ _ (ap (λ m. get_or xs m d) e) refl (under k d (omega arith) (omega arith) f))
      (λ u. cases (which k j)
      (λ e. by _ _ _ _ refl (ap (λ m. get_or xs m d) e) (over p d (omega arith) (omega arith)))
      (λ v. h.0 p k d a b f u v))

  module _ (xs ys : List X) (j c n : ℕ) (from : j * 2 + 1 ≤ c) (to : c ≤ j * 2 + 2) (in' : c < n) (s : Traded xs ys j c) where
    down : IsNotBelowChildren lt xs j c n → IsHeapWithHole lt xs j n → IsHeapWithHole lt ys c n
    down best h = (
      λ p k d a b f u v. cases (which p j)
          (λ e. by _ _ _ _ (ap (λ m. get_or ys m d) e ∙ s.0 d) (s.2 k d (omega arith) v) (best k d (omega arith) (omega arith) f))
          (λ w. cases (which k j)
          (λ e. by _ _ _ _ (s.2 p d w u) (ap (λ m. get_or ys m d) e ∙ s.0 d) (h.1 p c d (omega arith) (omega arith) from to in'))
          (λ z. by _ _ _ _ (s.2 p d w u) (s.2 k d z v) (h.0 p k d a b f w z))),
      λ p k d a b f g i.
          let e : p ≡ j = omega arith in
          by _ _ _ _ (ap (λ m. get_or ys m d) e ∙ s.0 d) (s.2 k d (omega arith) (omega arith)) (h.0 c k d f g i (omega arith) (omega arith)),
    )

    under : IsStrictWeakOrder lt → ((d : X) → lt (get_or xs j d) (get_or xs c d) ≡ true) → Over lt ys c
    under o t = λ p d a b. let e : p ≡ j = omega arith in by _ _ _ _ (ap (λ m. get_or ys m d) e ∙ s.0 d) (s.1 d) (o.one_way _ _ (t d))

  module _ (o : IsStrictWeakOrder lt) where
    never : (x : X) (b : Bool) → lt x x ≡ b → lt x x ≡ false
    never x true e = o.one_way x x e
    never x false e = e

    itself : (xs : List X) (j k : ℕ) (d : X) → k ≡ j → lt (get_or xs j d) (get_or xs k d) ≡ false
    itself xs j k d e = by _ _ _ _ refl (ap (λ m. get_or xs m d) e) (never (get_or xs j d) _ refl)

    pub top : (xs : List X) (n : ℕ) (d : X) → IsHeapWithin lt xs 0 n → (fuel k : ℕ) → k ≤ fuel → k < n → lt (get_or xs 0 d) (get_or xs k d) ≡ false
    top xs n d h zero k a b = itself xs 0 k d (omega arith)
    top xs n d h (suc fuel) k a b = cases (which k 0) (itself xs 0 k d)
        (λ u. o.chain _ _ _ (top xs n d h fuel ((k - 1) / 2) (omega arith) (omega arith)) (h ((k - 1) / 2) k d (omega arith) (omega arith) (omega arith) b))

    -- the better of two children
    only : (xs : List X) (j c n : ℕ) → c ≡ j * 2 + 1 → n ≤ c + 1 → IsNotBelowChildren lt xs j c n
    only xs j c n e l = λ k d a b f. itself xs c k d (omega arith)

    first : (xs : List X) (j c n : ℕ) → c ≡ j * 2 + 1 → ((d : X) → lt (get_or xs c d) (get_or xs (c + 1) d) ≡ false) → IsNotBelowChildren lt xs j c n
    first xs j c n e t = λ k d a b f. cases (which k c) (itself xs c k d)
        (λ u. let p : k ≡ c + 1 = omega arith in by _ _ _ _ refl (ap (λ m. get_or xs m d) p) (t d))

    second : (xs : List X) (j c n : ℕ) → c ≡ j * 2 + 1 → ((d : X) → lt (get_or xs c d) (get_or xs (c + 1) d) ≡ true) → IsNotBelowChildren lt xs j (c + 1) n
    second xs j c n e t = λ k d a b f. cases (which k (c + 1)) (itself xs (c + 1) k d)
        (λ u. let p : k ≡ c = omega arith in by _ _ _ _ refl (ap (λ m. get_or xs m d) p) (o.one_way _ _ (t d)))

    over_by : (xs : List X) (j : ℕ) → ((d : X) → lt (get_or xs ((j - 1) / 2) d) (get_or xs j d) ≡ false) → Over lt xs j
    over_by xs j t = λ k d a b. let e : k ≡ (j - 1) / 2 = omega arith in by _ _ _ _ (ap (λ m. get_or xs m d) e) refl (t d)

    through : (xs : List X) (j c n : ℕ) → ((d : X) → lt (get_or xs j d) (get_or xs c d) ≡ false) → IsNotBelowChildren lt xs j c n → IsNotBelowChildren lt xs j j n
    through xs j c n t best = λ k d a b f. o.chain _ _ _ (t d) (best k d a b f)

    above : (xs : List X) (j n : ℕ) → 0 < j → ((d : X) → lt (get_or xs ((j - 1) / 2) d) (get_or xs j d) ≡ true) → IsHeapWithHole lt xs j n → IsNotBelowChildren lt xs j j n
    above xs j n z t h = λ k d a b f. o.chain _ _ _ (o.one_way _ _ (t d)) (h.1 ((j - 1) / 2) k d (omega arith) (omega arith) a b f)

-- the order of the entries that the test of a heap is of: that of their ranks, back to front
abbrev pub back : {K : Type 0} → (K → K → Ordering) → Entry K → Entry K → Ordering
back R = on (λ e. e.rank) (flip_args R)

pub back_order : {K : Type 0} {R : K → K → Ordering} → IsTotalOrder R → IsTotalOrder (back R)
back_order {K} o = on_total (λ (e : Entry K). e.rank) (back_total o)

pub ranks : {K : Type 0} {R : K → K → Ordering} → IsTotalOrder R → IsStrictWeakOrder (after (below R))
ranks o = heaps.ranks (back_order o)

module _ {K : Type 0} (R : K → K → Ordering) where
  -- `sift_up`, as the library says it of the first n entries
  pub risen : (xs ys : List (Entry K)) (j : ℕ) → j < length xs → length ys ≡ length xs → SiftsUp (back R) xs j ys → Rises R xs j ys
  unfolding Rises SiftsUp
  risen xs ys j long same rises = λ h. subst (IsHeapWithin (after (below R)) ys 0) (sym same) (rises (length xs) long h)

  -- `sift_down`
  pub Sinking : List (Entry K) → ℕ → List (Entry K) → ℕ → Type 0
  Sinking xs j₀ ys j = IsHeapWithHole (after (below R)) xs j₀ (length xs) × Over (after (below R)) xs j₀ → IsHeapWithHole (after (below R)) ys j (length ys) × Over (after (below R)) ys j

  pub sink_begins : (xs : List (Entry K)) (j : ℕ) → Sinking xs j xs j
  unfolding Sinking
  sink_begins xs j = λ h. h

  pub sink_ends : (xs ys : List (Entry K)) (j₀ j : ℕ) → length ys / 2 ≤ j → Sinking xs j₀ ys j → Sinks R xs j₀ ys
  unfolding Sinking Sinks
  sink_ends xs ys j₀ j leaf was = λ h. closes (after (below R)) ys j (length ys) (was h).1 (was h).0 (λ k d a b f. absurd (omega arith))

  -- `mend`
  pub mend_top : (xs ys : List (Entry K)) (j : ℕ) → j ≡ 0 → Sinks R xs j ys → Mends R xs j ys
  unfolding Sinks Mends
  mend_top xs ys j z sinks = λ h. sinks (h, λ p d a b. absurd (omega arith))

  module _ (o : IsTotalOrder R) where
    pub only_child : (xs : List (Entry K)) (j c : ℕ) → c ≡ j * 2 + 1 → length xs ≤ c + 1 → Best R xs j c
    unfolding Best
    only_child xs j c e l = only (after (below R)) (ranks o) xs j c (length xs) e l

    pub left_child : (xs : List (Entry K)) (j c : ℕ) → c ≡ j * 2 + 1 → Tells R xs (c + 1) c false → Best R xs j c
    unfolding Best
    left_child xs j c e t = first (after (below R)) (ranks o) xs j c (length xs) e t

    pub right_child : (xs : List (Entry K)) (j c : ℕ) → c ≡ j * 2 + 1 → Tells R xs (c + 1) c true → Best R xs j (c + 1)
    unfolding Best
    right_child xs j c e t = second (after (below R)) (ranks o) xs j c (length xs) e t

    pub sink_steps : (xs ys zs : List (Entry K)) (j₀ j c : ℕ) → j * 2 + 1 ≤ c → c ≤ j * 2 + 2 → c < length ys → length zs ≡ length ys → Traded ys zs j c → Best R ys j c → Tells R ys c j true → Sinking xs j₀ ys j → Sinking xs j₀ zs c
    unfolding Sinking Best
    sink_steps xs ys zs j₀ j c from to in' same s best t was = λ h. (
      subst (IsHeapWithHole (after (below R)) zs c) (sym same) (down (after (below R)) ys zs j c (length ys) from to in' s best (was h).0),
      under (after (below R)) ys zs j c (length ys) from to in' s (ranks o) t,
    )

    pub sink_rests : (xs ys : List (Entry K)) (j₀ j c : ℕ) → Best R ys j c → Tells R ys c j false → Sinking xs j₀ ys j → Sinks R xs j₀ ys
    unfolding Sinking Sinks Best
    sink_rests xs ys j₀ j c best t was = λ h. closes (after (below R)) ys j (length ys) (was h).1 (was h).0 (through (after (below R)) (ranks o) ys j c (length ys) t best)

    pub mend_up : (xs ys : List (Entry K)) (j : ℕ) → 0 < j → j < length xs → Tells R xs j ((j - 1) / 2) true → Rises R xs j ys → Mends R xs j ys
    unfolding Rises Mends
    mend_up xs ys j z in' t rises = λ h. rises (h, above (after (below R)) (ranks o) xs j (length xs) z t h)

    pub mend_down : (xs ys : List (Entry K)) (j : ℕ) → Tells R xs j ((j - 1) / 2) false → Sinks R xs j ys → Mends R xs j ys
    unfolding Sinks Mends
    mend_down xs ys j t sinks = λ h. sinks (h, over_by (after (below R)) (ranks o) xs j t)
