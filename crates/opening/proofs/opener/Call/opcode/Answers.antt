use Rattle.std.proofs.Common.{rules}
use Rattle.opening.proofs.Opcodes.{opens_none}
use Rattle.opening.proofs.opener.Call.opcode.Goals as goal

pub returns : goal.returns
returns c = let none = opens_none c.args.number in search rules
