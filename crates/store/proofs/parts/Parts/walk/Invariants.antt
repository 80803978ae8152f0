use Rattle.store.specs.Search.{NeverStops}
use Rattle.store.proofs.parts.Parts.walk.Given as goal

abbrev pub invariant-loop-steps : goal.invariant-loop-steps
invariant-loop-steps g l = NeverStops (goal.F-post g l.test) l.self.cells.now l.name l.steps
