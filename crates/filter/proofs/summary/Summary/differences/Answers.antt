use Rattle.std.proofs.Common.{◌≡◌, ℕ, ◌+◌, ◌*◌, ◌<◌, length, get_or, sym, ap, ◌∙◌, vec_items, vec_len, arith, rules}
use lib.Bits.{bit_xor}
use lib.Count.{ones}
use Rattle.std.proofs.lemmas.List.{length_push}
use Rattle.std.proofs.lemmas.Slice.Zip.{zip_turn}
use Rattle.filter.specs.declared.summary.Summary.{Summary}
use Rattle.filter.specs.Summaries.{differs, tally}
use Rattle.filter.proofs.Octets.{differences_more}
use Rattle.filter.proofs.Values.{tally_le}
use Rattle.filter.proofs.summary.Summary.differences.Goals as goal

-- the octets x and y at place i as the loop reads them
counted : (a b : Summary) (i count x y : ℕ) → x ≡ get_or (vec_items a.octets) i 0 → y ≡ get_or (vec_items b.octets) i 0
    → count ≡ tally (differs (vec_items a.octets) (vec_items b.octets)) (8 * i)
    → count + ones (bit_xor x y) ≡ tally (differs (vec_items a.octets) (vec_items b.octets)) (8 * (i + 1))
counted a b i count x y x-is y-is e =
    (λ j. count + ones (bit_xor (x-is j) (y-is j))) ∙ differences_more (vec_items a.octets) (vec_items b.octets) i count (a.octet i) (b.octet i) e

pub overflow_add-count : goal.overflow_add-count
overflow_add-count c =
    let a = c.args.self.now in
    let b = c.args.other.now in
    let i = length c.loop-one.yielded in
    let t = zip_turn (vec_items a.octets) (vec_items b.octets) c.loop-one.yielded c.into_iter-one-iterator.result c.loop-one.one-iterator c.next.new.self c.next.result (search rules) (search rules) c.loop-one.yielded_by _ c.in-Some.is c.next.ensures.steps in
    let e = counted a b i c.loop-one.count _ _ (t.2 0) (t.3 0) c.loop-one.invariant.counted in
    let below = tally_le (differs (vec_items a.octets) (vec_items b.octets)) (8 * (i + 1)) in
    let within : i < vec_len a.octets = search (rules, t.0) in
    omega arith

pub loop-one-preserved : goal.loop-one-preserved
loop-one-preserved c =
    let a = c.args.self.now in
    let b = c.args.other.now in
    let i = length c.loop-one.yielded in
    let t = zip_turn (vec_items a.octets) (vec_items b.octets) c.loop-one.yielded c.into_iter-one-iterator.result c.loop-one.one-iterator c.next.new.self c.next.result (search rules) (search rules) c.loop-one.yielded_by _ c.in-Some.is c.next.ensures.steps in
    record {
      can = search rules;
      finite = search rules;
      counted = counted a b i c.loop-one.count _ _ (t.2 0) (t.3 0) c.loop-one.invariant.counted ∙ ap (λ n. tally (differs (vec_items a.octets) (vec_items b.octets)) (8 * n)) (sym (length_push c.loop-one.yielded (c.in-Some.one, c.in-Some.another)));
    }
