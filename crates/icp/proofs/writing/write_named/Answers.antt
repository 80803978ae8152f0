use Rattle.std.proofs.Common.{◌++◌, length, sym, refl, ap, ◌∙◌, rules}
use Rattle.icp.specs.Contents.{text}
use Rattle.icp.specs.Writing.{begins}
use Rattle.icp.proofs.Names.{nameable_decides}
use Rattle.icp.proofs.Puts.{named_put}
use Rattle.icp.proofs.writing.write_named.Goals as goal

pub returns-then-not-good_name : goal.returns-then-not-good_name
returns-then-not-good_name c = let test = nameable_decides c.args.name.now in search rules

pub returns-then-out-length : goal.returns-then-out-length
returns-then-out-length c = let test = nameable_decides c.args.name.now in search rules

pub returns : goal.returns
returns c =
    let test = nameable_decides c.args.name.now in
    let b = c.args.between.now in
    let name = c.args.name.now in
    let xs = c.args.out.now in
    let twenty = sym (ap length c.octets.ensures) in (
      search rules,
      refl,
      named_put c.octets.result b name xs c.put.new.out c.put-2.new.out c.put-3.new.out c.put-4.new.out twenty c.put.ensures c.put-2.ensures c.put-3.ensures c.put-4.ensures
          ∙ ap (λ h. begins (h ++ (b ++ text name)) xs) c.octets.ensures,
    )
