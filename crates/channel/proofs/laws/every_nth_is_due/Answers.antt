use Rattle.channel.proofs.Counting.{every_nth}
use Rattle.channel.proofs.laws.every_nth_is_due.Goals as goal

pub returns : goal.returns
returns c = every_nth
