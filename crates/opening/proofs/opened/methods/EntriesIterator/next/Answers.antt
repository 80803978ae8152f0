use Rattle.std.proofs.Common.{◌<◌, length, arith, rules}
use Rattle.opening.specs.Reading.{entries_in}
use Rattle.opening.proofs.ChangeLists.{length_entries}
use Rattle.opening.proofs.opened.methods.EntriesIterator.next.Goals as goal

pub returns-clause-goes : goal.returns-clause-goes
returns-clause-goes c =
    let before = length_entries c.args.self.now.rest.now in
    let after = length_entries c.in_ok-octets.rest.now in
    let fewer : length (entries_in c.in_ok-octets.rest.now) < length (entries_in c.args.self.now.rest.now) = omega (arith, c.in_ok-octets.ensures) in
    search rules
