-- The numbers of a channel's refusals.
use Rattle.std.specs.Prelude.{ℕ}
use Rattle.fault.specs.declared.Fault.{Fault}
use Rattle.fault.specs.declared.Layer.TheVariants.{Channel}
use Rattle.channel.specs.declared.refusals.ChannelFault.{ChannelFault}
use Rattle.channel.specs.declared.refusals.ChannelFault.TheVariants.{Positions, Length, NoHouse, Octets, Full}

abbrev number : ChannelFault → ℕ
number Positions = 2
number Length = 3
number NoHouse = 26
number Octets = 27
number Full = 28

-- what each refusal carries: no house and no version is concerned
abbrev pub channel_fault : ChannelFault → Fault
channel_fault f = record { number = number f; layer = Channel; house = 0; version = 0 }
