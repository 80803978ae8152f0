use Rattle.std.proofs.Common.{◌≡◌, length, drop}
use Rattle.opening.specs.Reading.{rises}
use Rattle.opening.specs.Types.{entries_left}
use Rattle.opening.proofs.opened.methods.rising.Given as goal

abbrev pub invariant-loop-entry : goal.invariant-loop-entry
invariant-loop-entry l =
    rises l.m l.low (drop (length l.yielded) (entries_left l.fn.entries)) ≡ rises l.m 0 (entries_left l.fn.entries)
