-- What the types of the code say.
use Rattle.std.specs.Prelude.{ℕ, List}
use Rattle.icp.specs.declared.contents.Answer.{Answer}
use Rattle.icp.specs.declared.contents.AnswerKind.{AnswerKind}
use Rattle.icp.specs.declared.contents.AnswerKind.TheVariants.{Acknowledgement, CallForWhole}
use Rattle.icp.specs.declared.contents.ReplyKind.{ReplyKind}
use Rattle.icp.specs.declared.contents.ReplyKind.TheVariants.{Hit, Miss}
use Rattle.icp.specs.Contents.{Content, acknowledgement, call, hit, miss}

abbrev pub answer_as : AnswerKind → ℕ → ℕ → ℕ → Content
answer_as Acknowledgement sender held owner = acknowledgement sender held owner
answer_as CallForWhole sender held owner = call sender held owner

abbrev pub answer_opcode : AnswerKind → ℕ
answer_opcode Acknowledgement = 31
answer_opcode CallForWhole = 32

abbrev pub answer_says : Answer → Content
answer_says a = answer_as a.kind a.sender a.held a.owner

abbrev pub reply_as : ReplyKind → ℕ → ℕ → List ℕ → Content
reply_as Hit sender request name = hit sender request name
reply_as Miss sender request name = miss sender request name

abbrev pub reply_opcode : ReplyKind → ℕ
reply_opcode Hit = 2
reply_opcode Miss = 3
