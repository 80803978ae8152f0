-- What a layer makes of the channel below it, in that channel's own words.
use Rattle.std.specs.Prelude.{◌≡◌, ℕ, Bool, ◌⊎◌, List, Some, None, MatchBool, Option}
use Rattle.channel.specs.Letters.{Letter, letter}
use Rattle.channel.specs.declared.channels.Channel.{Ghosts as Channel}

-- a letter that is due is lost, and another is accepted below
abbrev pub Dropped : {C : Type 0} → Channel C → Bool → C → Letter → C → Type 0
Dropped below due before sent after = MatchBool due (after ≡ before) (below.accepts before sent after)

-- a letter is sent below, and a refusal is lost
abbrev pub Tried : {C : Type 0} → Channel C → C → Letter → C → Type 0
Tried below before sent after = ((below.full before sent → ⊥) × below.accepts before sent after) ⊎ (below.full before sent × (after ≡ before))

-- a letter is accepted below, and one that is due is sent once more
abbrev pub Repeated : {C : Type 0} → Channel C → Bool → C → Letter → C → Type 0
Repeated {C} below due before sent after = (once : C) × below.accepts before sent once × MatchBool due (Tried below once sent after) (after ≡ once)

-- a message that a house was given is sent to it again
abbrev pub Returned : {C : Type 0} → Channel C → C → ℕ → Option (List ℕ) → C → Type 0
Returned below before house None after = after ≡ before
Returned below before house (Some octets) after = Tried below before (letter house octets) after

-- a message for a house is taken below and sent back
abbrev pub SentBack : {C : Type 0} → Channel C → C → ℕ → C → Type 0
SentBack {C} below before house after = (answer : Option (List ℕ)) × (without : C) × below.gives before house answer without × Returned below without house answer after

-- a house takes from below; before a taking that is due, a message for it is sent back
abbrev pub Turned : {C : Type 0} → Channel C → Bool → C → ℕ → Option (List ℕ) → C → Type 0
Turned {C} below due before house answer after =
    MatchBool due ((again : C) × SentBack below before house again × below.gives again house answer after) (below.gives before house answer after)
