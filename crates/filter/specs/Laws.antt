-- What issuing and spending receipts, and summaries, promise.
use Rattle.std.specs.Prelude.{◌≡◌, ℕ, ◌+◌, ◌*◌, ◌<◌, max, true, cond, List, [], ◌∷◌, ◌++◌, length, replicate, nat_le, slice_index}
use Rattle.std.specs.List.{ContainsAt as Has, AllByRecursion}
use Rattle.filter.specs.Positions.{positions, names}
use Rattle.filter.specs.Counters.{Issued, Spent}
use Rattle.filter.specs.Summaries.{bit, present, Summarizes}

-- how many of the receipts name a position
abbrev pub naming : ℕ → List (List ℕ) → ℕ
naming p [] = 0
naming p (r ∷ rs) = cond (names r p) 1 0 + naming p rs

-- m counters that were all 0, after receipts were issued and spent in any order, each spent once at most:
-- the receipts outstanding, the most of them that ever named each position together, and the counters
pub data Kept (m : ℕ) : List (List ℕ) → (ℕ → ℕ) → List ℕ → Type 0 where
  begun : Kept m [] (λ p. 0) (replicate m 0)
  issued : (r : List ℕ) {rs : List (List ℕ)} {most : ℕ → ℕ} {before after : List ℕ} → Kept m rs most before → Issued r before after
      → Kept m (r ∷ rs) (λ p. max (most p) (naming p (r ∷ rs))) after
  spent : (front : List (List ℕ)) (r : List ℕ) (back : List (List ℕ)) {most : ℕ → ℕ} {before after : List ℕ} → Kept m (front ++ r ∷ back) most before → Spent r before after
      → Kept m (front ++ back) most after

-- every position is one of the m
abbrev pub Within : ℕ → List ℕ → Type 0
Within m ps = AllByRecursion (λ p. p < m) ps

-- the positions of a name are among the m
abbrev pub PositionsWithin : Type 0
PositionsWithin = (m : ℕ) (words : List ℕ) → 0 < m → Within m (positions m words)

-- a counter is 15 where 15 receipts ever named its position together, and otherwise the number of receipts that do now
abbrev pub CountersCount : Type 0
CountersCount = (m : ℕ) (rs : List (List ℕ)) (most : ℕ → ℕ) (cs : List ℕ) → Kept m rs most cs
    → (p : ℕ) → p < m → slice_index cs p ≡ cond (nat_le 15 (most p)) 15 (naming p rs)

-- a counter below 15 is the number of receipts that name its position
abbrev pub BelowFifteenCounts : Type 0
BelowFifteenCounts = (m : ℕ) (rs : List (List ℕ)) (most : ℕ → ℕ) (cs : List ℕ) → Kept m rs most cs
    → (p : ℕ) → p < m → slice_index cs p < 15 → slice_index cs p ≡ naming p rs

-- a receipt that was just issued tests present in the summary
abbrev pub IssuedIsPresent : Type 0
IssuedIsPresent = (ps before after octets : List ℕ) → Within (length before) ps → Issued ps before after → Summarizes after octets → present octets ps ≡ true

-- every outstanding receipt tests present in the summary
abbrev pub OutstandingIsPresent : Type 0
OutstandingIsPresent = (m : ℕ) (rs : List (List ℕ)) (most : ℕ → ℕ) (cs octets : List ℕ) → Kept m rs most cs → Summarizes cs octets
    → (r : List ℕ) → Has rs r → Within m r → present octets r ≡ true

-- a summary is determined by its bits
abbrev pub BitsDetermine : Type 0
BitsDetermine = (a b : List ℕ) → length a ≡ length b → ((i : ℕ) → slice_index a i < 256) → ((i : ℕ) → slice_index b i < 256)
    → ((p : ℕ) → p < 8 * length a → bit a p ≡ bit b p) → a ≡ b

pub record Laws : Type 0 where
  pub within : PositionsWithin
  pub counts : CountersCount
  pub below_fifteen : BelowFifteenCounts
  pub issued_present : IssuedIsPresent
  pub outstanding_present : OutstandingIsPresent
  pub determined : BitsDetermine
