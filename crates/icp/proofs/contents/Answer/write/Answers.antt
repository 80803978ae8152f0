use Rattle.std.proofs.Common.{rules}
use Rattle.icp.specs.Opcodes.{opcode_number}
use Rattle.icp.proofs.Messages.{answer_written}
use Rattle.icp.proofs.contents.Answer.write.Goals as goal

pub returns : goal.returns
returns c =
    let a = c.args.self.now in
    let xs = c.args.out.now in (
      search rules,
      (λ m. answer_written m 20 a.sender a.held (opcode_number c.opcode.result) c.octets.result xs c.put.new.out a.kind a.owner c.opcode.ensures c.octets.ensures c.put.ensures),
    )
