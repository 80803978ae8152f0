use Rattle.std.proofs.Common.{◌≡◌, ◌+◌, ◌*◌, length, vec_items}
use Rattle.icp.specs.Writing.{changed, listed}
use Rattle.icp.proofs.Pairs.{Turn}
use Rattle.icp.proofs.declaring.ChangeList.put_entries.Given as goal

abbrev pub invariant-loop-i : goal.invariant-loop-i
invariant-loop-i l =
    let a = vec_items l.self.before.now.octets in
    let b = vec_items l.self.after.now.octets in
    let n = 8 * length l.yielded in
    record { placed : l.at ≡ 32 + 4 * length (changed a b n); written : l.out ≡ listed l.fn.out a b n }

abbrev pub invariant-loop-k : goal.invariant-loop-k
invariant-loop-k l =
    let a = vec_items l.self.before.now.octets in
    let b = vec_items l.self.after.now.octets in
    let n = 8 * l.i + l.k in
    record { placed : l.at ≡ 32 + 4 * length (changed a b n); written : l.out ≡ listed l.fn.out a b n; turn : Turn a b l.i l.i l.before l.after }
