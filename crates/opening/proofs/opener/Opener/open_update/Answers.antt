use Rattle.std.proofs.Common.{◌≤◌, drop, length, ◌-◌, rules, arith}
use Rattle.std.proofs.lemmas.List.{take_all, length-drop}
use Rattle.opening.proofs.opener.Opener.open_update.Goals as goal

-- what is kept is all that follows the fields
pub returns : goal.returns
returns c =
    let m = c.args.message.now in
    let fits : length (drop 32 m) ≤ length m - 32 = omega (arith, length-drop 32 m) in
    rw (take_all (length m - 32) (drop 32 m) fits) (search rules)
