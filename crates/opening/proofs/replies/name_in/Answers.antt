use Rattle.std.proofs.Common.{rules}
use Rattle.icp.proofs.Names.{nameable_decides}
use Rattle.opening.proofs.Names.{name_of, wrong_by}
use Rattle.opening.proofs.replies.name_in.Goals as goal

pub returns : goal.returns
returns c =
    let parts = c.in_ok-end.ensures.cases.0 in
    let name = name_of c.args.text.now c.in_ok-end.name.now c.in_ok-end.end.now parts in
    let wrong = wrong_by c.args.text.now c.in_ok-end.name.now c.in_ok-end.end.now parts in
    let test = nameable_decides c.in_ok-end.name.now in
    search rules
