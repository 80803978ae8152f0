-- Slots filled, and moved behind the others.
use Rattle.std.proofs.Common.{◌≡◌, ℕ, suc, ◌+◌, ◌-◌, ◌<◌, ◌≤◌, Bool, true, false, List, [], ◌∷◌, ◌++◌, map, length, get_or, take, drop, set, replicate, Decides, MatchBool, sym, refl, ap, ◌∙◌, arith, rules}
use Rattle.std.specs.List.{remove, AllWithin, HoldsAt}
use Rattle.std.proofs.lemmas.List.{places, same_lists, append_assoc, take_at, take-take, length-map, length-set, length-append, length-take, length-drop, length-take-le, get_or-map, get_or-replicate, set-get_or, map-set, map_push, map-append, take-map, drop-map, take_more_set, take-replicate, drop-replicate, replicate-append-replicate, replicate_more}
use Rattle.std.proofs.lemmas.Bool.{false≢true}
use Rattle.channel.specs.Letters.{room}
use Rattle.channel.specs.Slots.{space, letter_in, letters, Measured}
use Rattle.channel.specs.declared.slot.Slot.{Slot}

-- a message copied from the front of octets to the front of a buffer
pub copied : (n : ℕ) (front rest octets items : List ℕ) → front ≡ take (n - 0) octets → octets ≡ items → n ≤ length octets → take n (front ++ rest) ≡ take n items
copied n front rest octets items is same h =
    let whole : n - 0 ≡ n = omega arith in
    let e : front ≡ take n octets = is ∙ ap (λ k. take k octets) whole in
    take_at front rest n (ap length e ∙ length-take-le n octets h) ∙ e ∙ ap (take n) same

-- a message copied to the front of a slot's octets
pub filled : (n long : ℕ) (front rest more : List ℕ) → n ≤ long → length front ≡ n → take n (take long ((front ++ rest) ++ more)) ≡ front
filled n long front rest more h l = take-take n long _ h ∙ ap (take n) (append_assoc front rest more) ∙ take_at front (rest ++ more) n l

pub measured_at : (m : ℕ) (slots : List Slot) (i : ℕ) (d : Slot) → Measured m slots → i < length slots → space (get_or slots i d) ≡ room m
measured_at m slots i d e h = sym (get_or-map space slots i d 0 h) ∙ ap (λ xs. get_or xs i 0) e.1 ∙ get_or-replicate (length slots) i (room m) 0 h

pub measured_set : (m : ℕ) (slots : List Slot) (i : ℕ) (slot : Slot) → Measured m slots → i < length slots → space slot ≡ room m → Measured m (set slots i slot)
measured_set m slots i slot e h same =
    let all = replicate (length slots) (room m) in
    let long = length-set slots i slot in (
      long ∙ e.0,
      map-set space slots i slot ∙ ap (λ xs. set xs i (space slot)) e.1 ∙ ap (set all i) (same ∙ sym (get_or-replicate (length slots) i (room m) 0 h)) ∙ set-get_or all i 0
          ∙ ap (λ n. replicate n (room m)) (sym long),
    )

pub measured_moved : (m : ℕ) (slots : List Slot) (i : ℕ) (slot : Slot) → Measured m slots → i < length slots → space slot ≡ room m → Measured m (remove slots i ++ (slot ∷ []))
measured_moved m slots i slot e h same =
    let r = room m in
    let n = length slots in
    let left = n - suc i in
    let long : length (remove slots i ++ (slot ∷ [])) ≡ n = simp (length-append, length-take, length-drop) (omega arith) in
    let front : map space (take i slots) ≡ replicate i r = sym (take-map space i slots) ∙ ap (take i) e.1 ∙ take-replicate i n r (omega arith) in
    let back : map space (drop (suc i) slots) ≡ replicate left r = sym (drop-map space (suc i) slots) ∙ ap (drop (suc i)) e.1 ∙ drop-replicate (suc i) n r in
    let rest : map space (remove slots i) ≡ replicate (i + left) r =
    map-append space (take i slots) (drop (suc i) slots) ∙ ap (λ xs. xs ++ map space (drop (suc i) slots)) front ∙ ap (λ xs. replicate i r ++ xs) back ∙ replicate-append-replicate i left r in
    let again : i + left + 1 ≡ length (remove slots i ++ (slot ∷ [])) = omega arith in (
      long ∙ e.0,
      map_push space (remove slots i) slot ∙ ap (λ xs. xs ++ (space slot ∷ [])) rest ∙ ap (λ x. replicate (i + left) r ++ (x ∷ [])) same
          ∙ replicate_more (i + left) r ∙ ap (λ k. replicate k r) again,
    )

pub length_letters : (count : ℕ) (slots : List Slot) → count ≤ length slots → length (letters count slots) ≡ count
length_letters count slots h = length-map (take count slots) letter_in ∙ length-take-le count slots h

pub letters_set : (count : ℕ) (slots : List Slot) (slot : Slot) → count < length slots → letters (count + 1) (set slots count slot) ≡ letters count slots ++ (letter_in slot ∷ [])
letters_set count slots slot h = ap (map letter_in) (take_more_set slots count slot h) ∙ map_push letter_in (take count slots) slot

without : (xs : List Slot) (i count : ℕ) (x : Slot) → i < count → count ≤ length xs → take (count - 1) (remove xs i ++ (x ∷ [])) ≡ take i (take count xs) ++ drop (i + 1) (take count xs)
without xs i count x h within = same_lists _ _ (search (rules, places)) (λ k d l. grind (arith, places))

pub letters_moved : (count : ℕ) (slots : List Slot) (i : ℕ) (slot : Slot) → i < count → count ≤ length slots → letters (count - 1) (remove slots i ++ (slot ∷ [])) ≡ take i (letters count slots) ++ drop (i + 1) (letters count slots)
letters_moved count slots i slot h within =
    let shown = take count slots in
    ap (map letter_in) (without slots i count slot h within) ∙ map-append letter_in (take i shown) (drop (i + 1) shown)
    ∙ ap (λ xs. xs ++ map letter_in (drop (i + 1) shown)) (sym (take-map letter_in i shown)) ∙ ap (λ xs. take i (map letter_in shown) ++ xs) (sym (drop-map letter_in (i + 1) shown))

-- slots that are all of a size
spaces : (r : ℕ) (slots : List Slot) → AllWithin (λ x. space x ≡ r) slots 0 (length slots) → map space slots ≡ replicate (length slots) r
spaces r [] h = refl
spaces r (slot ∷ slots) h =
    (λ i. h 0 slot (omega arith) (omega arith) i ∷ map space slots) ∙ ap (λ xs. r ∷ xs) (spaces r slots (λ k d a b. h (suc k) d (omega arith) (omega arith)))

-- a slot of another size
pub other_space : (m : ℕ) (slots : List Slot) (i : ℕ) → i < length slots → HoldsAt (λ x. space x ≡ room m → ⊥) slots i → Measured m slots → ⊥
other_space m [] i h other e = absurd (omega arith)
other_space m (slot ∷ slots) i h other e = other slot (measured_at m (slot ∷ slots) i slot e h)

-- 32 slots are measured where all are of the size
pub all_measured : (m : ℕ) (slots : List Slot) (r : Bool) → length slots ≡ 32
    → MatchBool r (AllWithin (λ x. space x ≡ room m) slots 0 (length slots)) ((k : ℕ) × (k < length slots) × HoldsAt (λ x. space x ≡ room m → ⊥) slots k)
    → Decides r (Measured m slots)
all_measured m slots true long h = (λ t. (long, spaces (room m) slots h), λ e. refl)
all_measured m slots false long h = (λ t. absurd (false≢true t), λ e. absurd (other_space m slots h.0 h.1 h.2 e))
