use Rattle.std.proofs.Common.{◌≡◌, ◌-◌, ltb, length, drop, ap, ◌∙◌, arith, rules}
use Rattle.std.proofs.lemmas.List.{length-reverse}
use Rattle.std.proofs.lemmas.Iterator.Adapters.{YieldsList-from_rev_slice}
use Rattle.std.proofs.lemmas.Iterator.Consumers.{YieldsList-turn, YieldsList-end}
use Rattle.filter.specs.Summaries.{has_value}
use Rattle.filter.proofs.Octets.{packed, packed_room, packed_value, flag_is}
use Rattle.filter.proofs.counters.methods.pack.Goals as goal

pub overflow_mul-octet : goal.overflow_mul-octet
overflow_mul-octet c =
    let t = YieldsList-turn (YieldsList-from_rev_slice c.args.counters.now (search rules)) c.loop-count.yielded _ c.loop-count.yielded_by _ _ c.in-Some.count c.in-Some.is c.next.ensures.steps in
    let room = packed_room c.args.counters.now (length c.loop-count.yielded) c.requires t.0 in
    let e = c.loop-count.invariant.packed in
    omega arith

pub overflow_add-octet : goal.overflow_add-octet
overflow_add-octet c =
    let t = YieldsList-turn (YieldsList-from_rev_slice c.args.counters.now (search rules)) c.loop-count.yielded _ c.loop-count.yielded_by _ _ c.in-Some.count c.in-Some.is c.next.ensures.steps in
    let room = packed_room c.args.counters.now (length c.loop-count.yielded) c.requires t.0 in
    let e = c.loop-count.invariant.packed in
    let flag = (flag_is (ltb 0 c.in-Some.count.now)).1 in
    let f = c.from.ensures in
    omega arith

pub returns : goal.returns
returns c k below =
    let cs = c.args.counters.now in
    let t = YieldsList-end (YieldsList-from_rev_slice cs (search rules)) c.loop-count.yielded _ c.loop-count.yielded_by _ _ c.in-None.is c.next.ensures.steps in
    let all : 8 - length c.loop-count.yielded ≡ 0 = omega (arith, t.1, length-reverse cs) in
    ap (λ n. has_value n k) (c.loop-count.invariant.packed ∙ ap (λ n. packed (drop n cs)) all) ∙ packed_value cs k (omega arith)
