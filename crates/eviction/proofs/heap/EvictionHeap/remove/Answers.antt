use Rattle.std.proofs.Common.{◌-◌, take, refl}
use Rattle.eviction.proofs.Moves as moves
use Rattle.eviction.proofs.heap.EvictionHeap.remove.Goals as goal

pub returns : goal.returns
returns g c =
    let es = c.args.entries.now in
    let n = c.len-len.result in
    let x = c.take_out.result in
    let told = c.take_out.ensures in
    let len = c.len-len.ensures in
    let left = moves.taken g.R.Ord.cmp es c.take_out.new.live c.args.self.now.len n (n - 1) x len.live len.within refl c.take_out.auto.live told.keeps told.shuffled in
    record { order = left.0; cases = (moves.found (take n es) c.in_ok-at.at c.args.place x (told.value x) c.in_ok-at.ensures.1, left.1) }
