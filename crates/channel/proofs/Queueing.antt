-- A queue's places.
use Rattle.std.proofs.Common.{◌≡◌, ℕ, zero, suc, ◌+◌, ◌-◌, ◌<◌, ◌≤◌, List, [], ◌∷◌, ◌++◌, map, length, get_or, take, drop, set, Some, None, Option, MatchOption, vec_items, vec_len, sym, ap, ◌∙◌, subst, arith}
use Rattle.std.proofs.lemmas.List.{length-map, length-take-le, get_or-map, get_or-take, take_all}
use Rattle.std.specs.List.{remove, AllWithin, HoldsAt}
use Rattle.channel.specs.Letters.{Letter, letter, room, Waits, NoneNew}
use Rattle.channel.specs.Queues.{queued, NoneFor, FirstFor}
use Rattle.channel.specs.Slots.{space, letter_in, letters, Measured}
use Rattle.channel.specs.declared.queue.Queue.{Queue}
use Rattle.channel.specs.declared.slot.Slot.{Slot}
use Rattle.channel.proofs.Slotting.{length_letters, letters_moved, letters_set, measured_at, measured_moved}
use Rattle.channel.proofs.Waiting.{split_at, none_new, waits_at}

-- there are 32 slots
pub many : (q : Queue) → vec_len q.slots ≡ 32
many q = q.slots.ok.0 ∙ q.measured.0

pub count_is : (q : Queue) → length (queued q) ≡ q.count
count_is q = let long = q.measured.0 in let most = q.most in length_letters q.count (vec_items q.slots) (omega arith)

-- a slot that was read at a place has the letter that waits there
pub at : (q : Queue) (place : ℕ) (slot : Slot) → place < q.count → slot ≡ get_or (vec_items q.slots) place slot → (x : Letter) → get_or (queued q) place x ≡ letter_in slot
at q place slot h read x =
    let slots = vec_items q.slots in
    let long = q.measured.0 in
    let most = q.most in
    let shown = length-take-le q.count slots (omega arith) in
    get_or-map letter_in (take q.count slots) place slot x (omega arith) ∙ ap letter_in (get_or-take q.count slots place slot h) ∙ ap letter_in (sym read)

-- no slot of the first n is for a house
none_in : (house : ℕ) (ws : List Slot) (n : ℕ) → AllWithin (λ x. x.to ≡ house → ⊥) ws 0 n → n ≤ length ws → NoneFor house (take n (map letter_in ws))
none_in house ws zero h l = tt
none_in house [] (suc n) h l = absurd (omega arith)
none_in house (w ∷ ws) (suc n) h l = (h 0 w (omega arith) (omega arith), none_in house ws n (λ k d a b. h (suc k) d (omega arith) (omega arith)) (omega arith))

-- what a slot of a list has that each value at its place has
some_at : (P : Slot → Type 0) (ws : List Slot) (i : ℕ) → i < length ws → HoldsAt P ws i → (w : Slot) × P (get_or ws i w)
some_at P [] i l h = absurd (omega arith)
some_at P (w ∷ ws) i l h = (w, h w)

-- the first of the slots that is for a house has the first letter for it
pub first_in : (house : ℕ) (ws : List Slot) (r : Option ℕ)
    → MatchOption r (AllWithin (λ x. x.to ≡ house → ⊥) ws 0 (length ws)) (λ i. (i < length ws) × HoldsAt (λ x. x.to ≡ house) ws i × AllWithin (λ x. x.to ≡ house → ⊥) ws 0 i)
    → MatchOption r (NoneFor house (map letter_in ws)) (λ i. FirstFor house (map letter_in ws) i)
first_in house ws None h =
    let long = length-map ws letter_in in
    subst (NoneFor house) (take_all (length ws) (map letter_in ws) (omega arith)) (none_in house ws (length ws) h (omega arith))
first_in house ws (Some i) h =
    let long = length-map ws letter_in in
    let w = some_at (λ x. x.to ≡ house) ws i h.0 h.1 in
    record { within = omega (arith, h.0); before = none_in house ws i h.2 (omega (arith, h.0)); is = λ x. ap (λ l. l.to) (get_or-map letter_in ws i w.0 x h.0) ∙ w.1 }

-- a message that waits is no longer than the room
pub short : (q : Queue) (place : ℕ) (slot : Slot) → place < q.count → slot ≡ get_or (vec_items q.slots) place slot → length (letter_in slot).octets ≤ room q.size.positions
short q place slot h read =
    let count = count_is q in
    let any = letter_in slot in
    (q.fitting (letter_in slot) (subst (Waits (queued q)) (at q place slot h read any) (waits_at (queued q) place any (omega arith)))).1

-- a slot is taken out, and put behind the others
pub moved : (q : Queue) (place : ℕ) (slot : Slot) (without after : List Slot) → place < q.count → without ≡ remove (vec_items q.slots) place → after ≡ without ++ (slot ∷ []) → letters (q.count - 1) after ≡ take place (queued q) ++ drop (place + 1) (queued q)
moved q place slot without after h out behind =
    let long = q.measured.0 in
    let most = q.most in
    ap (letters (q.count - 1)) (behind ∙ ap (λ xs. xs ++ (slot ∷ [])) out) ∙ letters_moved q.count (vec_items q.slots) place slot h (omega arith)

pub measured_after : (q : Queue) (place : ℕ) (slot : Slot) (without after : List Slot) → place < q.count → slot ≡ get_or (vec_items q.slots) place slot → without ≡ remove (vec_items q.slots) place → after ≡ without ++ (slot ∷ []) → Measured q.size.positions after
measured_after q place slot without after h read out behind =
    let slots = vec_items q.slots in
    let long = q.measured.0 in
    let most = q.most in
    let within : place < length slots = omega arith in
    subst (Measured q.size.positions) (sym (behind ∙ ap (λ xs. xs ++ (slot ∷ [])) out))
    (measured_moved _ slots place slot q.measured within (ap space read ∙ measured_at _ slots place slot q.measured within))

pub left_waited : (before : List Letter) (place : ℕ) → place < length before → NoneNew before (take place before ++ drop (place + 1) before)
left_waited before place h x w =
    let any : Letter = letter 0 [] in
    subst (λ all. Waits all x) (sym (split_at before place any h)) (none_new (take place before) (drop (place + 1) before) (get_or before place any) x w)

-- a letter is put into the first slot behind those that wait
pub put : (q : Queue) (slot : Slot) → q.count < 32 → letters (q.count + 1) (set (vec_items q.slots) q.count slot) ≡ queued q ++ (letter_in slot ∷ [])
put q slot h = let long = q.measured.0 in letters_set q.count (vec_items q.slots) slot (omega arith)

-- the size of the slot there
pub free_space : (q : Queue) (slot : Slot) → q.count < 32 → slot ≡ get_or (vec_items q.slots) q.count slot → space slot ≡ room q.size.positions
free_space q slot h read = let long = q.measured.0 in ap space read ∙ measured_at _ (vec_items q.slots) q.count slot q.measured (omega arith)
