-- The counters of outstanding receipts, step by step.
use Rattle.std.proofs.Common.{◌≡◌, ℕ, zero, suc, ◌+◌, ◌<◌, ◌≤◌, max, Bool, true, false, cond, ◌||◌, eqb, leb, List, [], ◌∷◌, ◌++◌, length, get_or, sym, refl, ap, ◌∙◌, subst, mod-lt, arith}
use lib.ListN.{length-replicate}
use Rattle.std.proofs.ByRecursion.{All-get_or}
use Rattle.std.proofs.lemmas.Bool.{lt-ltb, eq-eqb, or_right, and_from}
use Rattle.std.proofs.lemmas.Bool.Decides.{nat_tests}
use Rattle.filter.specs.Positions.{names}
use Rattle.filter.specs.Counters.{raised, lowered}
use Rattle.filter.specs.Summaries.{bit, present, Summarizes}
use Rattle.filter.specs.Laws.{naming, Kept, begun, issued, spent, Within, PositionsWithin, CountersCount, BelowFifteenCounts, IssuedIsPresent, OutstandingIsPresent}
use Rattle.filter.proofs.Stepping.{get_or_zeros}

pub within : PositionsWithin
within m [] h = tt
within m (w ∷ ws) h = (mod-lt w h, within m ws h)

-- the counter of a position that n receipts name now, and of which most did at one time
abbrev counter : ℕ → ℕ → ℕ
counter most n = cond (leb 15 most) 15 n

up : (b : Bool) (most n : ℕ) → n ≤ most → raised b (counter most n) ≡ counter (max most (cond b 1 0 + n)) (cond b 1 0 + n)
up true most n h = grind (arith, nat_tests)
up false most n h = grind (arith, nat_tests)

down : (b : Bool) (most n : ℕ) → cond b 1 0 + n ≤ most → lowered b (counter most (cond b 1 0 + n)) ≡ counter most n
down true most n h = grind (arith, nat_tests)
down false most n h = grind (arith, nat_tests)

-- a receipt among others, put in front
naming_at : (p : ℕ) (front : List (List ℕ)) (r : List ℕ) (back : List (List ℕ)) → naming p (front ++ r ∷ back) ≡ cond (names r p) 1 0 + naming p (front ++ back)
naming_at p [] r back = refl
naming_at p (f ∷ front) r back = let e = naming_at p front r back in omega arith

module _ (m : ℕ) where
  pub kept_long : {rs : List (List ℕ)} {most : ℕ → ℕ} {cs : List ℕ} → Kept m rs most cs → length cs ≡ m
  kept_long begun = length-replicate m 0
  kept_long (issued r k s) = s.long ∙ kept_long k
  kept_long (spent front r back k s) = s.long ∙ kept_long k

  kept_most : {rs : List (List ℕ)} {most : ℕ → ℕ} {cs : List ℕ} → Kept m rs most cs → (p : ℕ) → naming p rs ≤ most p
  kept_most begun p = omega arith
  kept_most (issued r {rs} {most} k s) p = omega arith
  kept_most (spent front r back k s) p = let h = kept_most k p in let e = naming_at p front r back in omega arith

pub counts : CountersCount
counts m rs most cs begun p h = get_or_zeros m p
counts m rs most cs (issued r {rs = others} {most = before-most} {before = before} k s) p h =
    let long : p < length before = let e = kept_long m k in omega arith in
    s.each p long
    ∙ ap (raised (names r p)) (counts m others before-most before k p h)
    ∙ up (names r p) (before-most p) (naming p others) (kept_most m k p)
counts m rs most cs (spent front r back {most = same} {before = before} k s) p h =
    let long : p < length before = let e = kept_long m k in omega arith in
    let at = naming_at p front r back in
    s.each p long
    ∙ ap (lowered (names r p)) (counts m (front ++ r ∷ back) same before k p h ∙ ap (counter (same p)) at)
    ∙ down (names r p) (same p) (naming p (front ++ back)) (subst (λ n. n ≤ same p) at (kept_most m k p))

fifteen : (most n c : ℕ) → c ≡ counter most n → c < 15 → c ≡ n
fifteen most n c e h = grind (arith, nat_tests)

pub below_fifteen : BelowFifteenCounts
below_fifteen m rs most cs k p h low = fifteen (most p) (naming p rs) (get_or cs p 0) (counts m rs most cs k p h) low

-- each position of a list is named by it
names_at : (ps : List ℕ) (k : ℕ) → k < length ps → names ps (get_or ps k 0) ≡ true
names_at [] k h = absurd (omega arith)
names_at (p ∷ ps) zero h = ap (λ b. b || names ps p) (eq-eqb p p refl)
names_at (p ∷ ps) (suc k) h = or_right (eqb p (get_or ps k 0)) (names ps (get_or ps k 0)) (names_at ps k (omega arith))

present_from : (octets ps : List ℕ) → ((k : ℕ) → k < length ps → bit octets (get_or ps k 0) ≡ true) → present octets ps ≡ true
present_from octets [] h = refl
present_from octets (p ∷ ps) h = and_from (bit octets p) (present octets ps) (h 0 (omega arith)) (present_from octets ps (λ k l. h (suc k) (omega arith)))

-- a name is present where the counters of its positions are above 0
above_present : (cs octets ps : List ℕ) → Summarizes cs octets → Within (length cs) ps → ((k : ℕ) → k < length ps → 0 < get_or cs (get_or ps k 0) 0) → present octets ps ≡ true
above_present cs octets ps s within h =
    present_from octets ps
    (λ k l. s.bits (get_or ps k 0) (All-get_or (λ p. p < length cs) ps k 0 l within) ∙ lt-ltb 0 (get_or cs (get_or ps k 0) 0) (h k l))

raised_above : (c : ℕ) → 0 < raised true c
raised_above c = grind (arith, nat_tests)

pub issued_present : IssuedIsPresent
issued_present ps before after octets within s z =
    above_present after octets ps z (subst (λ n. Within n ps) (sym s.long) within)
    (λ k l.
    let p = get_or ps k 0 in
    subst (λ n. 0 < n)
    (sym (s.each p (All-get_or (λ q. q < length before) ps k 0 l within) ∙ ap (λ b. raised b (get_or before p 0)) (names_at ps k l)))
    (raised_above (get_or before p 0)))

-- a receipt that is outstanding counts
naming_some : (p : ℕ) (rs : List (List ℕ)) (k : ℕ) → k < length rs → names (get_or rs k []) p ≡ true → 1 ≤ naming p rs
naming_some p [] k h e = absurd (omega arith)
naming_some p (r ∷ rs) zero h e = let n : ◌≡◌ {A = ℕ} (cond (names r p) 1 0) 1 = ap (λ b. cond b 1 0) e in omega arith
naming_some p (r ∷ rs) (suc k) h e = let n = naming_some p rs k (omega arith) e in omega arith

counter_above : (most n : ℕ) → 1 ≤ n → 0 < counter most n
counter_above most n h = grind (arith, nat_tests)

pub outstanding_present : OutstandingIsPresent
outstanding_present m rs most cs octets kept s r (at, below, is) within =
    above_present cs octets r s (subst (λ n. Within n r) (sym (kept_long m kept)) within)
    (λ k l.
    let p = get_or r k 0 in
    let inside : p < m = All-get_or (λ q. q < m) r k 0 l within in
    let named : names (get_or rs at []) p ≡ true = ap (λ x. names x p) (is []) ∙ names_at r k l in
    subst (λ n. 0 < n) (sym (counts m rs most cs kept p inside)) (counter_above (most p) (naming p rs) (naming_some p rs at below named)))
