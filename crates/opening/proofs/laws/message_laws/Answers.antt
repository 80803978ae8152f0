use Rattle.opening.proofs.ReadsBack.{reads_back, one_content}
use Rattle.opening.proofs.WritesBack.{writes_back}
use Rattle.opening.proofs.Applying.{changes_apply, changes_differ, declares_properly}
use Rattle.opening.proofs.laws.message_laws.Goals as goal

pub returns : goal.returns
returns c =
    record {
      reads_back = reads_back;
      writes_back = writes_back;
      one_content = one_content;
      changes_apply = changes_apply;
      changes_differ = changes_differ;
      declares_properly = declares_properly;
    }
