use Rattle.std.proofs.Common.{rules}
use Rattle.digest.specs.Md5.{block}
use Rattle.digest.proofs.rfc1321.rounds.Registers.compress.Goals as goal

pub returns : goal.returns
unfolding block
returns c = search rules
