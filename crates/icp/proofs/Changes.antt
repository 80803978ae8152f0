-- The positions in which two summaries differ, one more at a time.
use Rattle.std.proofs.Common.{◌≡◌, ℕ, zero, suc, ◌+◌, ◌-◌, ◌*◌, ◌<◌, ◌≤◌, Bool, true, false, cond, not, List, [], ◌∷◌, ◌++◌, length, get_or, take, drop, sym, refl, ap, ◌∙◌, append_assoc, add-one, arith, length-append}
use mathlib.Core.Bool.{beq}
use Rattle.std.specs.List.{flat_map}
use Rattle.std.proofs.lemmas.List.{append-nil, length-take-le, length_push, take-append-drop}
use Rattle.filter.specs.Summaries.{has_value, bit, differs, tally}
use Rattle.filter.proofs.Octets.{bit_at}
use Rattle.icp.specs.declared.contents.Change.{Change}
use Rattle.icp.specs.Contents.{entry_octets}
use Rattle.icp.specs.Writing.{begins, put_at, changed, listed}
use Rattle.icp.proofs.Puts.{put_on}

pub length_joined : (es : List Change) → length (flat_map entry_octets es) ≡ 4 * length es
length_joined [] = refl
length_joined (e ∷ es) = let l = length_joined es in omega arith

joined_append : (es fs : List Change) → flat_map entry_octets (es ++ fs) ≡ flat_map entry_octets es ++ flat_map entry_octets fs
joined_append [] fs = refl
joined_append (e ∷ es) fs = ap (λ z. entry_octets e ++ z) (joined_append es fs)

module _ (a b : List ℕ) where
  -- the change at a position
  abbrev pub item : ℕ → Change
  item n = record { position = n; value = bit b n }

  -- there are as many changes as positions that differ
  pub length_changed : (n : ℕ) → length (changed a b n) ≡ tally (differs a b) n
  length_changed zero = refl
  length_changed (suc n) =
      length-append (changed a b n) (cond (differs a b n) (item n ∷ []) [])
      ∙ (λ j. length_changed n j + one (differs a b n) j)
    where
      one : (t : Bool) → length (cond t (item n ∷ []) []) ≡ cond t 1 0
      one true = refl
      one false = refl

  -- no change at a position where they agree
  pub changed_same : (n : ℕ) → differs a b n ≡ false → changed a b (n + 1) ≡ changed a b n
  changed_same n e =
      ap (changed a b) (add-one n)
      ∙ ap (λ t. changed a b n ++ cond t (item n ∷ []) []) e
      ∙ append-nil (changed a b n)

  pub changed_more : (n : ℕ) → differs a b n ≡ true → changed a b (n + 1) ≡ changed a b n ++ item n ∷ []
  changed_more n e = ap (changed a b) (add-one n) ∙ ap (λ t. changed a b n ++ cond t (item n ∷ []) []) e

  -- more positions do not have fewer changes
  grows : (n k : ℕ) → length (changed a b n) ≤ length (changed a b (n + k))
  grows n zero = let e : n + 0 ≡ n = omega arith in omega (arith, ap (λ m. length (changed a b m)) e)
  grows n (suc k) =
      let e : n + suc k ≡ suc (n + k) = omega arith in
      let l = length-append (changed a b (n + k)) (cond (differs a b (n + k)) (item (n + k) ∷ []) []) in
      let h = grows n k in
      omega (arith, ap (λ m. length (changed a b m)) e)

  pub changed_grows : (n m : ℕ) → n ≤ m → length (changed a b n) ≤ length (changed a b m)
  changed_grows n m h =
      let k = m - n in
      let e : n + (m - n) ≡ m = omega arith in
      omega (arith, grows n (m - n), ap (λ z. length (changed a b z)) e)

  -- the octets written so far
  length_listed : (xs : List ℕ) (n : ℕ) → 32 ≤ length xs → length (take 32 xs ++ flat_map entry_octets (changed a b n)) ≡ 32 + 4 * length (changed a b n)
  length_listed xs n h = length-append (take 32 xs) (flat_map entry_octets (changed a b n)) ∙ (λ j. length-take-le 32 xs h j + length_joined (changed a b n) j)

  -- one entry more
  pub listed_more : (xs : List ℕ) (n at : ℕ) (e : Change) → 32 ≤ length xs → differs a b n ≡ true → e ≡ item n → at ≡ 32 + 4 * length (changed a b n)
      → put_at (listed xs a b n) at (entry_octets e) ≡ listed xs a b (n + 1)
  listed_more xs n at e h d is at_is =
      put_on (take 32 xs ++ flat_map entry_octets (changed a b n)) (entry_octets e) xs (listed xs a b n) at refl (at_is ∙ sym (length_listed xs n h))
      ∙ ap (λ z. begins z xs)
      (append_assoc (take 32 xs) (flat_map entry_octets (changed a b n)) (entry_octets e)
      ∙ ap (λ z. take 32 xs ++ z)
      ((λ j. flat_map entry_octets (changed a b n) ++ entry_octets (is j))
      ∙ sym (ap (flat_map entry_octets) (changed_more n d) ∙ joined_append (changed a b n) (item n ∷ [])
      ∙ ap (λ z. flat_map entry_octets (changed a b n) ++ z) (append-nil (entry_octets (item n))))))

  -- the test of one position of octet i, as the code has it
  pub tested : (i k : ℕ) (x y : Bool) → k < 8 → x ≡ has_value (get_or a i 0) k → y ≡ has_value (get_or b i 0) k → not (beq x y) ≡ differs a b (8 * i + k)
  tested i k x y h ex ey = unequal x y ∙ (λ j. cond (at_a j) (not (at_b j)) (at_b j))
    where
      at_a : x ≡ bit a (8 * i + k)
      at_a = ex ∙ sym (bit_at a i k h)

      at_b : y ≡ bit b (8 * i + k)
      at_b = ey ∙ sym (bit_at b i k h)

      unequal : (x y : Bool) → not (beq x y) ≡ cond x (not y) y
      unequal true true = refl
      unequal true false = refl
      unequal false true = refl
      unequal false false = refl

  pub longer : (n : ℕ) → differs a b n ≡ true → length (changed a b (n + 1)) ≡ length (changed a b n) + 1
  longer n d = ap length (changed_more n d) ∙ length_push (changed a b n) (item n)

  -- one position further on, with an entry or without
  module _ (xs : List ℕ) (n at next : ℕ) (now then : List ℕ) (at_is : at ≡ 32 + 4 * length (changed a b n)) (now_is : now ≡ listed xs a b n) where
    pub step_more : (e : Change) (octets : List ℕ) → 32 ≤ length xs → differs a b n ≡ true → e ≡ item n → octets ≡ entry_octets e → next ≡ at + 4 → then ≡ put_at now at octets
        → (next ≡ 32 + 4 * length (changed a b (n + 1))) × (then ≡ listed xs a b (n + 1))
    step_more e octets h d is octets-is next-is then_is =
        let l = longer n d in
        (omega arith, then_is ∙ (λ j. put_at (now_is j) at (octets-is j)) ∙ listed_more xs n at e h d is at_is)

    pub step_same : differs a b n ≡ false → next ≡ at → then ≡ now
        → (next ≡ 32 + 4 * length (changed a b (n + 1))) × (then ≡ listed xs a b (n + 1))
    step_same d next-is then_is =
        let same = changed_same n d in (
          next-is ∙ at_is ∙ sym (ap (λ es. 32 + 4 * length es) same),
          then_is ∙ now_is ∙ sym (ap (λ es. begins (take 32 xs ++ flat_map entry_octets es) xs) same),
        )

  -- no change in a run of positions where they agree
  same_run : (n k : ℕ) → ((j : ℕ) → j < k → differs a b (n + j) ≡ false) → changed a b (n + k) ≡ changed a b n
  same_run n zero h = let e : n + 0 ≡ n = omega arith in ap (changed a b) e
  same_run n (suc k) h =
      let e : n + suc k ≡ n + k + 1 = omega arith in
      ap (changed a b) e ∙ changed_same (n + k) (h k (omega arith)) ∙ same_run n k (λ j l. h j (omega arith))

  -- no change in octets that are equal
  pub changed_octet : (i : ℕ) → get_or a i 0 ≡ get_or b i 0 → changed a b (8 * i + 8) ≡ changed a b (8 * i)
  changed_octet i e =
      same_run (8 * i) 8
      (λ k h. ap (λ t. cond t (not (bit b (8 * i + k))) (bit b (8 * i + k))) (bit_at a i k h ∙ ap (λ x. has_value x k) e ∙ sym (bit_at b i k h)) ∙ never (bit b (8 * i + k)))
    where
      never : (t : Bool) → cond t (not t) t ≡ false
      never true = refl
      never false = refl

  -- an output before the first entry
  pub listed_none : (xs : List ℕ) → 32 ≤ length xs → xs ≡ listed xs a b 0
  listed_none xs h =
      let nil = append-nil (take 32 xs) in
      sym (take-append-drop 32 xs) ∙ sym ((λ j. nil j ++ drop (length (nil j)) xs) ∙ ap (λ n. take 32 xs ++ drop n xs) (length-take-le 32 xs h))
