use Rattle.filter.proofs.Keeping.{within, counts, below_fifteen, issued_present, outstanding_present}
use Rattle.filter.proofs.Octets.{same_bits}
use Rattle.filter.proofs.laws.filter_laws.Goals as goal

pub returns : goal.returns
returns c =
    record {
      within = within;
      counts = counts;
      below_fifteen = below_fifteen;
      issued_present = issued_present;
      outstanding_present = outstanding_present;
      determined = same_bits;
    }
