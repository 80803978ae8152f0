-- Positions that are named, one more at a time.
use Rattle.std.proofs.Common.{◌≡◌, ℕ, ◌+◌, ◌<◌, Bool, true, false, ◌||◌, ◌&&◌, eqb, List, [], ◌∷◌, ◌++◌, length, get_or, take, sym, refl, ap, ◌∙◌, arith}
use Rattle.std.proofs.lemmas.List.{take_more}
use Rattle.std.specs.List.{list_all}
use Rattle.filter.specs.Positions.{names, positions}
use Rattle.filter.specs.Summaries.{bit, present}

pub or_false : (b : Bool) → (b || false) ≡ b
or_false true = refl
or_false false = refl

or_assoc : (a b c : Bool) → ((a || b) || c) ≡ (a || (b || c))
or_assoc true b c = refl
or_assoc false b c = refl

names_push : (ps : List ℕ) (x p : ℕ) → names (ps ++ x ∷ []) p ≡ (names ps p || eqb x p)
names_push [] x p = or_false (eqb x p)
names_push (q ∷ qs) x p = ap (λ b. eqb q p || b) (names_push qs x p) ∙ sym (or_assoc (eqb q p) (names qs p) (eqb x p))

pub names_more : (ps : List ℕ) (i p : ℕ) → i < length ps → names (take (i + 1) ps) p ≡ (names (take i ps) p || eqb (get_or ps i 0) p)
names_more ps i p h = ap (λ l. names l p) (take_more ps i 0 h) ∙ names_push (take i ps) (get_or ps i 0) p

-- present, as the library's word for a test of every element
pub present_all : (octets ps : List ℕ) → present octets ps ≡ list_all (bit octets) ps
present_all octets [] = refl
present_all octets (p ∷ ps) = ap (λ b. bit octets p && b) (present_all octets ps)
