use Rattle.std.proofs.Common.{◌+◌, ◌<◌, ◌≤◌, ◌⊎◌, length, drop, sym, ap, ◌∙◌, inl, inr, arith}
use Rattle.std.proofs.lemmas.List.{at_drop_all, length_push}
use Rattle.std.proofs.lemmas.Iterator.Consumers.{YieldsList-from_first, YieldsList-turn, YieldsList-end}
use Rattle.opening.specs.Reading.{rises}
use Rattle.opening.specs.Types.{entries_left}
use Rattle.opening.proofs.ChangeLists.{rises_on, rises_not}
use Rattle.opening.proofs.opened.methods.rising.Goals as goal

pub returns-then-position-low : goal.returns-then-position-low
returns-then-position-low c =
    let es = entries_left c.args.entries in
    let i = length c.loop-entry.yielded in
    let e = c.in-Some.entry in
    let road = YieldsList-from_first (λ x. x) entries_left es (ap entries_left c.into_iter-entry-iterator.ensures.into_iter_gives) in
    let turn = YieldsList-turn road c.loop-entry.yielded c.loop-entry.entry-iterator c.loop-entry.yielded_by c.next.result c.next.new.self e c.in-Some.is c.next.ensures.steps in
    let out : (e.position < c.loop-entry.low) ⊎ (c.args.m ≤ e.position) = elim c.then-position-low.either [ inl a ↦ inl a | inr b ↦ inr b.1 ] in
    sym (sym c.loop-entry.invariant ∙ rises_not c.args.m c.loop-entry.low es i e turn.0 (sym turn.1) out)

pub loop-entry-preserved : goal.loop-entry-preserved
loop-entry-preserved c =
    let es = entries_left c.args.entries in
    let i = length c.loop-entry.yielded in
    let e = c.in-Some.entry in
    let road = YieldsList-from_first (λ x. x) entries_left es (ap entries_left c.into_iter-entry-iterator.ensures.into_iter_gives) in
    let turn = YieldsList-turn road c.loop-entry.yielded c.loop-entry.entry-iterator c.loop-entry.yielded_by c.next.result c.next.new.self e c.in-Some.is c.next.ensures.steps in
    let on = ap (λ k. rises c.args.m (e.position + 1) (drop k es)) (length_push c.loop-entry.yielded e) in
    on ∙ rises_on c.args.m c.loop-entry.low es i e turn.0 (sym turn.1) c.if-position-low.false c.if-position-m.false ∙ c.loop-entry.invariant

pub returns : goal.returns
returns c =
    let es = entries_left c.args.entries in
    let road = YieldsList-from_first (λ x. x) entries_left es (ap entries_left c.into_iter-entry-iterator.ensures.into_iter_gives) in
    let all = YieldsList-end road c.loop-entry.yielded c.loop-entry.entry-iterator c.loop-entry.yielded_by c.next.result c.next.new.self c.in-None.is c.next.ensures.steps in
    sym (sym c.loop-entry.invariant ∙ at_drop_all (rises c.args.m c.loop-entry.low) es (length c.loop-entry.yielded) (omega (arith, all.1)))
