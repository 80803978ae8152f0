-- Which names may be held, as a test.
use Rattle.std.specs.Prelude.{ℕ, Bool, true, ◌&&◌, List, [], ◌∷◌, length, nat_le}

abbrev pub nonzero : List ℕ → Bool
nonzero [] = true
nonzero (x ∷ xs) = nat_le 1 x && nonzero xs

abbrev pub nameable : List ℕ → Bool
nameable name = (nat_le 1 (length name) && nat_le (length name) 128) && nonzero name
