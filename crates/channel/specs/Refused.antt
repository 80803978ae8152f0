-- Why a call is refused: the house first, then the length, then the room.
use Rattle.std.specs.Prelude.{ℕ, ◌≤◌, length}
use Rattle.channel.specs.Letters.{Letter, room, Housed, Fitting, Sendable}
use Rattle.channel.specs.declared.refusals.ChannelFault.{ChannelFault}
use Rattle.channel.specs.declared.refusals.ChannelFault.TheVariants.{Positions, Length, NoHouse, Octets, Full}

-- why a message is not sent, on a channel that is full or not
abbrev pub WhyUnsent : ChannelFault → ℕ → Letter → Type 0 → Type 0
WhyUnsent Positions m sent full = ⊥
WhyUnsent Length m sent full = ⊥
WhyUnsent NoHouse m sent full = Housed sent.to → ⊥
WhyUnsent Octets m sent full = Housed sent.to × (Fitting m (length sent.octets) → ⊥)
WhyUnsent Full m sent full = Sendable m sent × full

-- why nothing is taken for a house, into a buffer of so many octets
abbrev pub WhyUntaken : ChannelFault → ℕ → ℕ → ℕ → Type 0
WhyUntaken Positions m house space = ⊥
WhyUntaken Length m house space = ⊥
WhyUntaken NoHouse m house space = Housed house → ⊥
WhyUntaken Octets m house space = Housed house × (room m ≤ space → ⊥)
WhyUntaken Full m house space = ⊥
