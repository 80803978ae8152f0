-- What a queue does.
use Rattle.std.specs.Prelude.{◌≡◌, ℕ, ◌+◌, ◌<◌, List, ◌∷◌, ◌++◌, length, take, drop, Some, None, vec_items, Option, ◌≢◌, slice_index_or}
use Rattle.std.specs.List.{AllByRecursion}
use Rattle.filter.specs.Positions.{Sized}
use Rattle.channel.specs.Letters.{Letter, letter}
use Rattle.channel.specs.Slots.{letters, Measured}
use Rattle.channel.specs.declared.queue.Queue.{Queue}
use Rattle.channel.specs.declared.slot.Slot.{Slot}
use Rattle.channel.specs.declared.refusals.ChannelFault.{ChannelFault}
use Rattle.channel.specs.declared.refusals.ChannelFault.TheVariants.{Positions, Length, NoHouse, Octets, Full}

-- why a beginning is refused, over these slots
abbrev pub Unbegun : ChannelFault → ℕ → List Slot → Type 0
Unbegun Positions m slots = Sized m → ⊥
Unbegun Length m slots = Sized m × (Measured m slots → ⊥)
Unbegun NoHouse m slots = ⊥
Unbegun Octets m slots = ⊥
Unbegun Full m slots = ⊥

-- the letters that wait, oldest first
abbrev pub queued : Queue → List Letter
queued q = letters q.count (vec_items q.slots)

-- no letter is for this house
abbrev pub NoneFor : ℕ → List Letter → Type 0
NoneFor house waiting = AllByRecursion (λ x. x.to ≢ house) waiting

-- the first letter for a house stands at a place
pub record FirstFor (house : ℕ) (waiting : List Letter) (place : ℕ) : Type 0 where
  pub within : place < length waiting
  pub before : NoneFor house (take place waiting)
  pub is : (x : Letter) → (slice_index_or waiting place x).to ≡ house

-- the letter at a place, with these octets, is taken out
pub record TakenAt (before : List Letter) (place : ℕ) (octets : List ℕ) (after : List Letter) : Type 0 where
  pub is : (x : Letter) → (slice_index_or before place x).octets ≡ octets
  pub left : after ≡ take place before ++ drop (place + 1) before

-- the oldest letter for a house is taken out
pub record Oldest (before : List Letter) (house : ℕ) (octets : List ℕ) (after : List Letter) : Type 0 where
  pub older : List Letter
  pub newer : List Letter
  pub here : before ≡ older ++ (letter house octets ∷ newer)
  pub first : NoneFor house older
  pub left : after ≡ older ++ newer

-- what a house is given, and what is left: the oldest letter for it, or none where there is none
abbrev pub Given : List Letter → ℕ → Option (List ℕ) → List Letter → Type 0
Given before house None after = NoneFor house before × (after ≡ before)
Given before house (Some octets) after = Oldest before house octets after
