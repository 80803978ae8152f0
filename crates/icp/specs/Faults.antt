-- The numbers of a message's refusals.
use Rattle.std.specs.Prelude.{ℕ, Bool, cond, Some, Option}
use Rattle.fault.specs.declared.Fault.{Fault}
use Rattle.fault.specs.declared.Layer.TheVariants.{Message}
use Rattle.icp.specs.declared.refusals.MessageFault.{MessageFault}
use Rattle.icp.specs.declared.refusals.MessageFault.TheVariants.{LastVersion, NothingDeclared, Output, Length, Header, Opcode, Sender, Filter, Body, Version, Position, Name, Reply}

abbrev number : MessageFault → ℕ
number (LastVersion h) = 12
number (NothingDeclared h) = 13
number (Output h) = 14
number (Length h) = 15
number (Header h) = 16
number (Opcode h) = 17
number (Sender h v) = 18
number (Filter h v) = 19
number (Body h v) = 20
number (Version h v) = 21
number (Position h v) = 22
number (Name h) = 29
number (Reply h) = 30

-- the house that wrote or opened
abbrev house : MessageFault → ℕ
house (LastVersion h) = h
house (NothingDeclared h) = h
house (Output h) = h
house (Length h) = h
house (Header h) = h
house (Opcode h) = h
house (Sender h v) = h
house (Filter h v) = h
house (Body h v) = h
house (Version h v) = h
house (Position h v) = h
house (Name h) = h
house (Reply h) = h

-- the message's request number, where it is told
abbrev version : MessageFault → ℕ
version (LastVersion h) = 0
version (NothingDeclared h) = 0
version (Output h) = 0
version (Length h) = 0
version (Header h) = 0
version (Opcode h) = 0
version (Sender h v) = v
version (Filter h v) = v
version (Body h v) = v
version (Version h v) = v
version (Position h v) = v
version (Name h) = 0
version (Reply h) = 0

-- what each refusal carries
abbrev pub message_fault : MessageFault → Fault
message_fault f = record { number = number f; layer = Message; house = house f; version = version f }

-- a refusal where the test holds, and otherwise what comes after it
abbrev pub refuse : Bool → MessageFault → Option MessageFault → Option MessageFault
refuse b f rest = cond b (Some f) rest
