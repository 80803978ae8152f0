use Rattle.std.proofs.Common.{◌≡◌, ℕ, ◌+◌, ◌*◌, ◌≤◌, true, Option, Some, Iter, List, [], ◌∷◌, ◌++◌, length, take, vec_items, sym, ap, ◌∙◌, subst, refl, Bor, arith}
use Rattle.std.specs.List.{flat_map}
use Rattle.std.proofs.lemmas.List.{length_push, take_all}
use Rattle.std.proofs.iter.Yields.{fronts}
use Rattle.std.proofs.lemmas.Iterator.{zips}
use Rattle.std.specs.Iterator.{Yields}
use Rattle.std.specs.Iterator.Adapters.{zip_first, zip_second, enumerate_source, enumerate_count, enumerate_steps}
use Rattle.std.specs.Slice.Iter.{iter_rest}
use Rattle.std.specs.declared.iter.Enumerate.{Enumerate}
use Rattle.std.specs.declared.iter.Zip.{Zip}
use Rattle.filter.specs.declared.summary.Summary.{Summary}
use Rattle.filter.specs.Summaries.{has_value, differs}
use Rattle.filter.proofs.Octets.{bit_at}
use Rattle.icp.specs.declared.declaring.ChangeList.{ChangeList}
use Rattle.icp.specs.Contents.{entry_octets}
use Rattle.icp.specs.Writing.{begins, changed, listed}
use Rattle.icp.proofs.Changes.{longer, length_changed, changed_grows, changed_octet, listed_none, tested, step_more, step_same}
use Rattle.icp.proofs.Pairs.{Turn, numbered_turn}
use Rattle.icp.proofs.declaring.ChangeList.put_entries.Goals as goal
use Rattle.icp.proofs.declaring.ChangeList.put_entries.Goals.{then-has_value-value, else-has_value-value}

pub loop-i-init : goal.loop-i-init
loop-i-init c =
    record { placed = refl; written = listed_none (vec_items c.args.self.before.now.octets) (vec_items c.args.self.after.now.octets) c.args.out.now (omega arith) }

-- two summaries of one size have as many octets
sized : (s t : Summary) → s.size.positions ≡ t.size.positions → length (vec_items s.octets) ≡ length (vec_items t.octets)
sized s t e = let u = s.octets.ok.0 in let v = t.octets.ok.0 in omega (arith, s.long, t.long)

-- the loop's next pair, where as many octets of the first summary are taken as the second has
turn_of : (l : ChangeList) (xs : List (ℕ × (Bor ℕ × Bor ℕ))) (s t u : Enumerate (Zip (Iter ℕ) (Iter ℕ))) (r : Option (ℕ × (Bor ℕ × Bor ℕ))) (p : ℕ × (Bor ℕ × Bor ℕ))
    → iter_rest (zip_first (enumerate_source s)) ≡ take (length (vec_items l.after.now.octets)) (vec_items l.before.now.octets)
    → iter_rest (zip_second (enumerate_source s)) ≡ vec_items l.after.now.octets → enumerate_count s ≡ 0
    → Yields (enumerate_steps (zips fronts fronts)) s xs t → r ≡ Some p → enumerate_steps (zips fronts fronts) t r u
    → Turn (vec_items l.before.now.octets) (vec_items l.after.now.octets) (length xs) p.0 p.1.0.now p.1.1.now
turn_of l xs s t u r p first second none yielded is step =
    let a = vec_items l.before.now.octets in
    let b = vec_items l.after.now.octets in
    let long = sized l.before.now l.after.now l.one_size in
    numbered_turn a b xs s t u r p long (first ∙ take_all (length b) a (omega (arith, long))) second none yielded is step

pub loop-k-init : goal.loop-k-init
loop-k-init c =
    let l = c.args.self in
    let a = vec_items l.before.now.octets in
    let b = vec_items l.after.now.octets in
    let p : ℕ × (Bor ℕ × Bor ℕ) = (c.in-Some.i, (c.in-Some.before, c.in-Some.after)) in
    let turn =
    turn_of l c.loop-i.yielded c.into_iter-i-iterator.result c.loop-i.i-iterator c.next.new.self c.next.result p (cc) (cc) (cc) c.loop-i.yielded_by c.in-Some.is c.next.ensures.steps in
    let on : 8 * length c.loop-i.yielded ≡ 8 * c.in-Some.i + 0 = omega (arith, turn.number) in
    record {
      placed = c.loop-i.invariant.placed ∙ ap (λ z. 32 + 4 * length (changed a b z)) on;
      written = c.loop-i.invariant.written ∙ ap (listed c.args.out.now a b) on;
      turn = subst (λ z. Turn a b z c.in-Some.i c.in-Some.before.now c.in-Some.after.now) (sym turn.number) turn;
    }

pub loop-i-preserved-in-loop-k : goal.loop-i-preserved-in-loop-k
loop-i-preserved-in-loop-k c =
    let l = c.args.self in
    let a = vec_items l.before.now.octets in
    let b = vec_items l.after.now.octets in
    let p : ℕ × (Bor ℕ × Bor ℕ) = (c.in-Some.i, (c.in-Some.before, c.in-Some.after)) in
    let turn =
    turn_of l c.loop-i.yielded c.into_iter-i-iterator.result c.loop-i.i-iterator c.next.new.self c.next.result p (cc) (cc) (cc) c.loop-i.yielded_by c.in-Some.is c.next.ensures.steps in
    let on : 8 * c.in-Some.i + c.loop-k.k ≡ 8 * length (c.loop-i.yielded ++ p ∷ []) = omega (arith, turn.number, length_push c.loop-i.yielded p) in
    record { placed = c.loop-k.invariant.placed ∙ ap (λ z. 32 + 4 * length (changed a b z)) on; written = c.loop-k.invariant.written ∙ ap (listed c.args.out.now a b) on }

pub loop-i-preserved : goal.loop-i-preserved
loop-i-preserved c =
    let l = c.args.self in
    let a = vec_items l.before.now.octets in
    let b = vec_items l.after.now.octets in
    let n = length c.loop-i.yielded in
    let p : ℕ × (Bor ℕ × Bor ℕ) = (c.in-Some.i, (c.in-Some.before, c.in-Some.after)) in
    let turn : Turn a b n c.in-Some.i c.in-Some.before.now c.in-Some.after.now =
    turn_of l c.loop-i.yielded c.into_iter-i-iterator.result c.loop-i.i-iterator c.next.new.self c.next.result p (cc) (cc) (cc) c.loop-i.yielded_by c.in-Some.is c.next.ensures.steps in
    let xs = c.args.out.now in
    let on : 8 * length (c.loop-i.yielded ++ p ∷ []) ≡ 8 * n + 8 = omega (arith, length_push c.loop-i.yielded p) in
    let same = ap (changed a b) on ∙ changed_octet a b n (sym turn.first ∙ c.if-before-after.false ∙ turn.second) in
    record {
      placed = c.loop-i.invariant.placed ∙ sym (ap (λ es. 32 + 4 * length es) same);
      written = c.loop-i.invariant.written ∙ sym (ap (λ es. begins (take 32 xs ++ flat_map entry_octets es) xs) same);
    }

pub put-requires : goal.put-requires
put-requires c =
    let l = c.args.self in
    let a = vec_items l.before.now.octets in
    let b = vec_items l.after.now.octets in
    let i = c.in-Some.i in
    let k = c.loop-k.k in
    let m = l.after.now.size.positions in
    let n = 8 * i + k in
    let turn = c.loop-k.invariant.turn in
    let within : n + 1 ≤ m = let s = l.before.now in let u = s.octets.ok.0 in omega (arith, s.long, turn.within, l.one_size) in
    let d : differs a b n ≡ true =
    sym (tested a b i k c.has_value.result c.has_value-value.result c.loop-k-test.true (c.has_value.ensures ∙ ap (λ x. has_value x k) turn.first) (c.has_value-value.ensures ∙ ap (λ x. has_value x k) turn.second))
    ∙ c.if-has_value-value.true in
    let one = longer a b n d in
    let room = changed_grows a b (n + 1) m within in
    let all = length_changed a b m ∙ sym l.counted in
    let four : length c.octets-then-has_value-value.result ≡ 4 = ap length c.octets-then-has_value-value.ensures in
    let at = c.loop-k.invariant.placed in
    omega arith

pub loop-k-preserved : goal.loop-k-preserved
loop-k-preserved c =
    let l = c.args.self in
    let a = vec_items l.before.now.octets in
    let b = vec_items l.after.now.octets in
    let i = c.in-Some.i in
    let k = c.loop-k.k in
    let n = 8 * i + k in
    let xs = c.args.out.now in
    let turn = c.loop-k.invariant.turn in
    let test =
    tested a b i k c.has_value.result c.has_value-value.result c.loop-k-test.true (c.has_value.ensures ∙ ap (λ x. has_value x k) turn.first) (c.has_value-value.ensures ∙ ap (λ x. has_value x k) turn.second) in
    let on : n + 1 ≡ 8 * i + (k + 1) = omega arith in
    let head : 32 ≤ length xs = omega arith in
    let Q : ℕ → Type 0 = λ z. (c.if-has_value-value.at ≡ 32 + 4 * length (changed a b z)) × (c.if-has_value-value.out ≡ listed xs a b z) in
    let both : Q (n + 1) =
    elim c.if-has_value-value.branch [
      | then-has_value-value w ↦
          step_more a b xs n c.loop-k.at c.if-has_value-value.at c.loop-k.out c.if-has_value-value.out c.loop-k.invariant.placed c.loop-k.invariant.written
          (record { position = n; value = c.has_value-value.result }) w.octets-then-has_value-value.result head (sym test ∙ w.if-has_value-value.true)
          (ap (λ v. record { position = n; value = v }) (c.has_value-value.ensures ∙ ap (λ x. has_value x k) turn.second ∙ sym (bit_at b i k c.loop-k-test.true)))
          w.octets-then-has_value-value.ensures w.at-is (w.out-is ∙ w.put.ensures)
      | else-has_value-value w ↦
          step_same a b xs n c.loop-k.at c.if-has_value-value.at c.loop-k.out c.if-has_value-value.out c.loop-k.invariant.placed c.loop-k.invariant.written (sym test ∙ w.if-has_value-value.false) w.at-is w.out-is
    ] in
    let moved = subst Q on both in
    record { placed = moved.0; written = moved.1; turn = turn }
