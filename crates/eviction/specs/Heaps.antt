-- Heaps of entries, whose least rank stands first.
use Rattle.std.specs.Prelude.{◌≡◌, ℕ, ◌<◌, Bool, false, List, length, take, ◌≢◌, slice_index_or}
use Rattle.std.specs.declared.cmp.Ordering.{Ordering}
use Rattle.std.specs.Ordering.{is_lt}
use Rattle.std.specs.Slice.Heapsort.{IsHeapWithin}
use Rattle.eviction.specs.declared.heap.Entry.{Entry}
use Rattle.eviction.specs.declared.heap.EvictionHeap.{EvictionHeap}

-- the live ones of the caller's entries
abbrev pub live : {K : Type 0} → EvictionHeap → List (Entry K) → List (Entry K)
live h entries = take h.len entries

-- the heap without a live entry
abbrev pub empty : EvictionHeap
empty = record { len = 0 }

module _ {K : Type 0} (before : K → K → Bool) where
  -- the rank of y is below that of x
  abbrev pub after : Entry K → Entry K → Bool
  after x y = before y.rank x.rank

  -- no rank is below its parent's; the parent of the entry at i is at (i - 1) / 2
  abbrev pub Heaped : List (Entry K) → Type 0
  Heaped xs = IsHeapWithin after xs 0 (length xs)

  -- no rank of xs is below that of x
  abbrev pub Least : Entry K → List (Entry K) → Type 0
  Least x xs = (i : ℕ) (d : Entry K) → i < length xs → before (slice_index_or xs i d).rank x.rank ≡ false

-- what an order says: x is below y
abbrev pub below : {K : Type 0} → (K → K → Ordering) → K → K → Bool
below R x y = is_lt (R x y)

module _ {K : Type 0} (R : K → K → Ordering) where
  -- where xs is a heap, ys is one
  abbrev pub Keeps : List (Entry K) → List (Entry K) → Type 0
  Keeps xs ys = Heaped (below R) xs → Heaped (below R) ys

  -- where xs is a heap, x is least of it
  abbrev pub Leads : Entry K → List (Entry K) → Type 0
  Leads x xs = Heaped (below R) xs → Least (below R) x xs

-- no entry of xs has this place
abbrev pub Lacks : {K : Type 0} → List (Entry K) → ℕ → Type 0
Lacks {K} xs place = (i : ℕ) (d : Entry K) → i < length xs → (slice_index_or xs i d).place ≢ place
