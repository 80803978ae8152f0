use Rattle.std.proofs.Common.{◌≡◌, ℕ, ◌+◌, List, [], ◌++◌, length, get_or, take, sym, ap, ◌∙◌, Bor, arith, length-append}
use Rattle.std.specs.List.{flat_map}
use Rattle.std.proofs.lemmas.List.{take_more, flat_map_more}
use Rattle.std.proofs.lemmas.List.Folds.{length-flat_map-take}
use Rattle.icp.specs.Writing.{begins}
use Rattle.icp.proofs.Puts.{put_on}
use Rattle.icp.proofs.writing.put_parts.Goals as goal

abbrev octets_of : Bor (List ℕ) → List ℕ
octets_of p = p.now

pub put-requires : goal.put-requires
put-requires c =
    let room = length-flat_map-take octets_of c.args.parts.now c.loop-part.part-index (record { ref_ptr = (0, 0); now = [] }) c.loop-part-test.true in
    omega arith

pub loop-part-preserved : goal.loop-part-preserved
loop-part-preserved c =
    let ps = c.args.parts.now in
    let i = c.loop-part.part-index in
    let part : Bor (List ℕ) = get_or ps i (record { ref_ptr = (0, 0); now = [] }) in
    let so_far = flat_map octets_of (take i ps) in
    let more : flat_map octets_of (take (i + 1) ps) ≡ so_far ++ part.now =
    ap (flat_map octets_of) (take_more ps i (record { ref_ptr = (0, 0); now = [] }) c.loop-part-test.true) ∙ sym (flat_map_more octets_of [] (take i ps) part) in
    let long = length-append so_far part.now in (
      omega (arith, ap length more),
      c.put.ensures ∙ put_on so_far part.now c.args.out.now c.loop-part.out c.loop-part.at c.loop-part.invariant.1 c.loop-part.invariant.0 ∙ ap (λ z. begins z c.args.out.now) (sym more),
    )
