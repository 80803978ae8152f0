use Rattle.std.proofs.Common.{refl}
use Rattle.examples.proofs.Abc.{abc_digest, abc_at_64, abc_summary}
use Rattle.examples.proofs.Sizes.{one_change, two_changes}
use Rattle.examples.proofs.worked_examples.Goals as goal

pub returns : goal.returns
returns c =
    record {
      abc_digest = abc_digest;
      abc_at_64 = abc_at_64;
      abc_summary = abc_summary;
      stuck_counter = refl;
      one_change = one_change;
      two_changes = two_changes;
    }
