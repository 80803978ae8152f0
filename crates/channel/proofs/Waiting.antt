-- Letters that wait, sent and taken.
use Rattle.std.proofs.Common.{◌≡◌, ℕ, ◌+◌, ◌<◌, List, [], ◌∷◌, ◌++◌, length, get_or, take, drop, sym, refl, ap, ◌∙◌, subst, inl, inr, ⊎_elim}
use Rattle.std.proofs.lemmas.List.{take-append-drop, drop_more}
use Rattle.channel.specs.Letters.{Letter, letter, Fitting, Waits, Sent, NoneNew}
use Rattle.channel.specs.Queues.{FirstFor, TakenAt, Oldest}

-- a letter put last
pub sent_last : (before : List Letter) (sent : Letter) → Sent before sent (before ++ (sent ∷ []))
sent_last [] sent x (inl e) = inr e
sent_last [] sent x (inr w) = elim w [ ]
sent_last (y ∷ ys) sent x (inl e) = inl (inl e)
sent_last (y ∷ ys) sent x (inr w) = ⊎_elim (λ v. inl (inr v)) inr (sent_last ys sent x w)

pub all_fitting : (m : ℕ) (before : List Letter) (sent : Letter) → ((x : Letter) → Waits before x → Fitting m (length x.octets)) → Fitting m (length sent.octets) → (x : Letter) → Waits (before ++ (sent ∷ [])) x → Fitting m (length x.octets)
all_fitting m before sent all fits x w = ⊎_elim (all x) (λ e. subst (λ l. Fitting m (length l.octets)) e fits) (sent_last before sent x w)

-- a letter taken out
pub none_new : (older newer : List Letter) (here : Letter) → NoneNew (older ++ (here ∷ newer)) (older ++ newer)
none_new [] newer here x w = inr w
none_new (y ∷ ys) newer here x (inl e) = inl e
none_new (y ∷ ys) newer here x (inr w) = inr (none_new ys newer here x w)

pub waits_between : (older newer : List Letter) (here : Letter) → Waits (older ++ (here ∷ newer)) here
waits_between [] newer here = inl refl
waits_between (y ∷ ys) newer here = inr (waits_between ys newer here)

-- the letter at a place waits
pub split_at : (before : List Letter) (place : ℕ) (x : Letter) → place < length before → before ≡ take place before ++ (get_or before place x ∷ drop (place + 1) before)
split_at before place x h = sym (take-append-drop place before) ∙ ap (λ rest. take place before ++ rest) (drop_more before place x h)

pub waits_at : (before : List Letter) (place : ℕ) (x : Letter) → place < length before → Waits before (get_or before place x)
waits_at before place x h =
    subst (λ all. Waits all (get_or before place x)) (sym (split_at before place x h)) (waits_between (take place before) (drop (place + 1) before) (get_or before place x))

-- what the first place for a house gives
pub oldest : (before : List Letter) (house place : ℕ) (octets : List ℕ) (after : List Letter) → FirstFor house before place → TakenAt before place octets after → Oldest before house octets after
oldest before house place octets after first taken =
    let any : Letter = letter house octets in
    let is : get_or before place any ≡ letter house octets = ap (λ to. letter to (get_or before place any).octets) (first.is any) ∙ ap (letter house) (taken.is any) in
    record {
      older = take place before;
      newer = drop (place + 1) before;
      here = split_at before place any first.within ∙ ap (λ x. take place before ++ (x ∷ drop (place + 1) before)) is;
      first = first.before;
      left = taken.left;
    }
