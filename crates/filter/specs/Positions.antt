-- The positions of a name, and which positions they name.
use Rattle.std.specs.Prelude.{◌≡◌, ℕ, ◌%◌, ◌≤◌, Bool, false, ◌||◌, List, [], ◌∷◌, map, ◌==◌}

-- a filter may have m positions: a multiple of 8 from 64 to 65,536
abbrev pub Sized : ℕ → Type 0
Sized m = (64 ≤ m) × (m ≤ 65536) × (m % 8 ≡ 0)

-- the positions of a name with these digest words: each word modulo m
abbrev pub positions : ℕ → List ℕ → List ℕ
positions m words = map (λ w. w % m) words

-- whether p stands among the positions; one that stands twice is named once
abbrev pub names : List ℕ → ℕ → Bool
names [] p = false
names (q ∷ qs) p = q == p || names qs p
