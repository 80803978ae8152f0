-- Messages that wait, each with the house that it is for.
use Rattle.std.specs.Prelude.{◌≡◌, ℕ, ◌+◌, ◌/◌, ◌≤◌, ◌⊎◌, List, [], ◌∷◌, length, take, Some, None, Option}

-- a message and its addressee
pub record Letter : Type 0 where
  pub to : ℕ
  pub octets : List ℕ

abbrev pub letter : ℕ → List ℕ → Letter
letter house octets = record { to = house; octets = octets }

-- the most octets of a message, where filters have m positions
abbrev pub room : ℕ → ℕ
room m = 32 + m / 8

-- houses are numbered 1 to 16
abbrev pub Housed : ℕ → Type 0
Housed house = (1 ≤ house) × (house ≤ 16)

-- a message may have so many octets
abbrev pub Fitting : ℕ → ℕ → Type 0
Fitting m long = (1 ≤ long) × (long ≤ room m)

-- a message may be sent
pub record Sendable (m : ℕ) (sent : Letter) : Type 0 where
  pub housed : Housed sent.to
  pub fitting : Fitting m (length sent.octets)

-- a message may be taken for a house, into a buffer of so many octets
pub record Takeable (m house space : ℕ) : Type 0 where
  pub housed : Housed house
  pub wide : room m ≤ space

-- a letter waits among these
abbrev pub Waits : List Letter → Letter → Type 0
Waits [] x = ⊥
Waits (y ∷ ys) x = (y ≡ x) ⊎ Waits ys x

-- what waits after a sending waited before, or is what was sent
abbrev pub Sent : List Letter → Letter → List Letter → Type 0
Sent before sent after = (x : Letter) → Waits after x → Waits before x ⊎ (sent ≡ x)

-- what waits now waited before
abbrev pub NoneNew : List Letter → List Letter → Type 0
NoneNew before after = (x : Letter) → Waits after x → Waits before x

-- an answer to a house is none, or a message that waited for it
abbrev pub Answers : ℕ → List Letter → ℕ → Option (List ℕ) → Type 0
Answers m before house None = Unit {0}
Answers m before house (Some octets) = Fitting m (length octets) × Waits before (letter house octets)

-- a house took its answer: what waits after waited before
pub record Taken (m : ℕ) (before : List Letter) (house : ℕ) (answer : Option (List ℕ)) (after : List Letter) : Type 0 where
  pub answers : Answers m before house answer
  pub none_new : NoneNew before after

-- the message at the front of a buffer, if there is one
abbrev pub message_in : Option ℕ → List ℕ → Option (List ℕ)
message_in None buffer = None
message_in (Some n) buffer = Some (take n buffer)

-- a message of so many octets stands within a buffer
abbrev pub Within : Option ℕ → ℕ → Type 0
Within None space = Unit {0}
Within (Some n) space = n ≤ space
