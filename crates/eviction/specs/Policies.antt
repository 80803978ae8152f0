-- Ranks of the two policies, and which of two is below the other.
use Rattle.std.specs.Prelude.{ℕ, ◌+◌, ◌*◌, ◌/◌, ◌^◌, min, max, Bool, ◌&&◌, ◌||◌, ◌==◌, nat_lt}
use Rattle.eviction.specs.declared.lru.Stamp.{Stamp}
use Rattle.eviction.specs.declared.greedy_dual_size.Worth.{Worth}

-- LRU: a rank is the stamp
abbrev pub latest : ℕ → Stamp
latest stamp = record { 0 = stamp }

-- an earlier stamp leaves first
abbrev pub earlier : Stamp → Stamp → Bool
earlier x y = nat_lt x.0 y.0

-- GreedyDual-Size: H = L + cost × 65,536 / size, rounded down, at most 2^62; a size of 0 adds nothing
abbrev pub worth : (l stamp size cost : ℕ) → Worth
worth l stamp size cost = record { h = min (2 ^ 62) (l + cost * 65536 / size); stamp = stamp }

-- L after the eviction of a record of this H
abbrev pub inflated : (l h : ℕ) → ℕ
inflated l h = max l h

-- the smaller H leaves first, and at the same H the earlier stamp
abbrev pub cheaper : Worth → Worth → Bool
cheaper x y = nat_lt x.h y.h || (x.h == y.h && nat_lt x.stamp y.stamp)
