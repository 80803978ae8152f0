-- The entries of a change list, by their octets.
use Rattle.std.proofs.Common.{◌≡◌, ℕ, zero, suc, ◌+◌, ◌*◌, ◌/◌, ◌<◌, ◌≤◌, false, ◌&&◌, ltb, leb, ◌⊎◌, List, [], ◌∷◌, length, get_or, drop, sym, refl, ap, ◌∙◌, inl, inr, arith}
use Rattle.std.proofs.lemmas.List.{at_drop_more}
use Rattle.std.proofs.lemmas.Bool.{le-leb, lt-ltb, lt-leb, le-ltb, and_left, and_right}
use Rattle.icp.specs.declared.contents.Change.{Change}
use Rattle.icp.specs.Numbers.{number4}
use Rattle.opening.specs.Reading.{change, entries_in, rises}

pub length_entries : (xs : List ℕ) → length (entries_in xs) ≡ length xs / 4
length_entries [] = refl
length_entries (a ∷ []) = refl
length_entries (a ∷ b ∷ []) = refl
length_entries (a ∷ b ∷ c ∷ []) = refl
length_entries (a ∷ b ∷ c ∷ d ∷ xs) = let e = length_entries xs in omega arith

-- a number further on in a list
module _ (a b c d : ℕ) (xs : List ℕ) (i : ℕ) where
  past : (k : ℕ) → get_or (a ∷ b ∷ c ∷ d ∷ xs) (4 * suc i + k) 0 ≡ get_or xs (4 * i + k) 0
  past k = let on : 4 * suc i + k ≡ suc (suc (suc (suc (4 * i + k)))) = omega arith in ap (λ n. get_or (a ∷ b ∷ c ∷ d ∷ xs) n 0) on

  first : get_or (a ∷ b ∷ c ∷ d ∷ xs) (4 * suc i) 0 ≡ get_or xs (4 * i) 0
  first = let on : 4 * suc i ≡ suc (suc (suc (suc (4 * i)))) = omega arith in ap (λ n. get_or (a ∷ b ∷ c ∷ d ∷ xs) n 0) on

  number4_past : number4 (a ∷ b ∷ c ∷ d ∷ xs) (4 * suc i) ≡ number4 xs (4 * i)
  number4_past = λ j. first j * 16777216 + past 1 j * 65536 + past 2 j * 256 + past 3 j

pub entry_at : (xs : List ℕ) (i : ℕ) (d : Change) → i < length xs / 4 → get_or (entries_in xs) i d ≡ change (number4 xs (4 * i))
entry_at [] i z h = absurd (omega arith)
entry_at (a ∷ []) i z h = absurd (omega arith)
entry_at (a ∷ b ∷ []) i z h = absurd (omega arith)
entry_at (a ∷ b ∷ c ∷ []) i z h = absurd (omega arith)
entry_at (a ∷ b ∷ c ∷ d ∷ xs) zero z h = refl
entry_at (a ∷ b ∷ c ∷ d ∷ xs) (suc i) z h = entry_at xs i z (omega arith) ∙ ap change (sym (number4_past a b c d xs i))

-- whether positions rise, one entry further on
module _ (m low : ℕ) (es : List Change) (i : ℕ) (e : Change) (within : i < length es) (is : get_or es i e ≡ e) where
  rises_more : rises m low (drop i es) ≡ ((leb low e.position && ltb e.position m) && rises m (e.position + 1) (drop (i + 1) es))
  rises_more = at_drop_more (rises m low) es i e within ∙ ap (λ x. rises m low (x ∷ drop (i + 1) es)) is

  pub rises_on : low ≤ e.position → e.position < m → rises m (e.position + 1) (drop (i + 1) es) ≡ rises m low (drop i es)
  rises_on above below =
      sym (rises_more ∙ (λ j. (le-leb low e.position above j && lt-ltb e.position m below j) && rises m (e.position + 1) (drop (i + 1) es)))

  pub rises_not : (e.position < low) ⊎ (m ≤ e.position) → rises m low (drop i es) ≡ false
  rises_not why = rises_more ∙ and_left (leb low e.position && ltb e.position m) _ (off why)
    where
      off : (e.position < low) ⊎ (m ≤ e.position) → (leb low e.position && ltb e.position m) ≡ false
      off (inl under) = and_left (leb low e.position) (ltb e.position m) (lt-leb low e.position under)
      off (inr over) = and_right (leb low e.position) (ltb e.position m) (le-ltb e.position m over)
