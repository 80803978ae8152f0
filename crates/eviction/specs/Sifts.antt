-- What the steps of a heap do.
use Rattle.std.specs.Prelude.{◌≡◌, ℕ, ◌+◌, ◌*◌, ◌≤◌, Bool, false, List, length, slice_index_or}
use Rattle.std.specs.declared.cmp.Ordering.{Ordering}
use Rattle.std.specs.Slice.Heapsort.{IsNotBelowChildren}
use Rattle.std.specs.BinaryHeap.Sift.{IsHeapWithHole}
use Rattle.eviction.specs.declared.heap.Entry.{Entry}
use Rattle.eviction.specs.Heaps.{after, below, Heaped}

-- the parent of j is not after it
abbrev pub Over : {X : Type 0} → (X → X → Bool) → List X → ℕ → Type 0
Over {X} lt xs j = (p : ℕ) (d : X) → p * 2 + 1 ≤ j → j ≤ p * 2 + 2 → lt (slice_index_or xs p d) (slice_index_or xs j d) ≡ false

module _ {K : Type 0} (R : K → K → Ordering) where
  -- r says whether the rank at a is below that at b
  abbrev pub Tells : List (Entry K) → ℕ → ℕ → Bool → Type 0
  Tells xs a b r = (d : Entry K) → below R (slice_index_or xs a d).rank (slice_index_or xs b d).rank ≡ r

  -- no child of j is below c
  unfoldable pub Best : List (Entry K) → ℕ → ℕ → Type 0
  Best xs j c = IsNotBelowChildren (after (below R)) xs j c (length xs)

  -- where xs is a heap but for the entry at j, which may stand too low, ys is a heap
  unfoldable pub Rises : List (Entry K) → ℕ → List (Entry K) → Type 0
  Rises xs j ys = IsHeapWithHole (after (below R)) xs j (length xs) × IsNotBelowChildren (after (below R)) xs j j (length xs) → Heaped (below R) ys

  -- the same where it may stand too high
  unfoldable pub Sinks : List (Entry K) → ℕ → List (Entry K) → Type 0
  Sinks xs j ys = IsHeapWithHole (after (below R)) xs j (length xs) × Over (after (below R)) xs j → Heaped (below R) ys

  -- the same where it may be any
  unfoldable pub Mends : List (Entry K) → ℕ → List (Entry K) → Type 0
  Mends xs j ys = IsHeapWithHole (after (below R)) xs j (length xs) → Heaped (below R) ys
