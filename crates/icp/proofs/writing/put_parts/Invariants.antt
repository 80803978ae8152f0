use Rattle.std.proofs.Common.{◌≡◌, length, take}
use Rattle.std.specs.List.{flat_map}
use Rattle.icp.specs.Writing.{begins}
use Rattle.icp.proofs.writing.put_parts.Given as goal

abbrev pub invariant-loop-part : goal.invariant-loop-part
invariant-loop-part l =
    (l.at ≡ length (flat_map (λ p. p.now) (take l.part-index l.parts)))
    × (l.out ≡ begins (flat_map (λ p. p.now) (take l.part-index l.parts)) l.initial.out)
