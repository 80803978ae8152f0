use Rattle.std.proofs.Common.{◌≡◌, ◌+◌, arith, rules}
use Rattle.icp.proofs.declaring.write_declaration.Goals as goal

pub returns-in-Some-between : goal.returns-in-Some-between
returns-in-Some-between c =
    let told = c.in-Some-between.ensures in
    let next : c.in-Some.version ≡ c.args.earlier + 1 = omega arith in
    (search rules, rw told.0 (rw (told.1, told.2, next) at c.put.ensures))
