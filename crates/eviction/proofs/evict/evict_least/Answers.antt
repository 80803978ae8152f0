use Rattle.std.proofs.Common.{take}
use Rattle.eviction.proofs.Meaning as meaning
use Rattle.eviction.proofs.evict.evict_least.Goals as goal

pub returns : goal.returns
returns g c =
    let told = c.in_ok-entry.ensures in
    let xs = take c.args.heap.now.len c.args.entries.now in
    let ys = take c.take_least.new.self.len c.take_least.new.entries in
    let law = g.met.P.Policy.order.1 in
    record {
      order = meaning.kept g.P.Rank.Ord.cmp g.P.Policy.before law xs ys told.order;
      cases = (meaning.least g.P.Rank.Ord.cmp g.P.Policy.before law c.in_ok-entry.entry xs told.cases.1, told.cases.2, c.tell.ensures);
    }
