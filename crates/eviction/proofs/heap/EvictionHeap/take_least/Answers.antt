use Rattle.std.proofs.Common.{◌≡◌, ◌-◌, get_or, take, ap, ◌∙◌, arith}
use Rattle.eviction.specs.declared.heap.Entry.{Entry}
use Rattle.eviction.proofs.Moves as moves
use Rattle.eviction.proofs.heap.EvictionHeap.take_least.Goals as goal

pub returns : goal.returns
returns g c =
    let es = c.args.entries.now in
    let m = c.args.self.now.len in
    let n = c.len-len.result in
    let xs = take m es in
    let x = c.take_out.result in
    let told = c.take_out.ensures in
    let len = c.len-len.ensures in
    let less : c.in_ok-self.field-0 ≡ n - 1 = omega (arith, c.in_ok-self.ensures) in
    let left = moves.taken g.R.Ord.cmp es c.take_out.new.live m n c.in_ok-self.field-0 x len.live len.within less c.take_out.auto.live told.keeps told.shuffled in
    let first : (d : Entry g.row.R.Denot) → x ≡ get_or xs 0 d = λ d. told.value d ∙ ap (λ l. get_or l 0 d) (moves.part es m n len.live) in
    record { order = left.0; cases = (moves.headed xs x (omega arith) first, moves.leads g.R.Ord.cmp g.met.R.Ord.total xs x first, left.1) }
