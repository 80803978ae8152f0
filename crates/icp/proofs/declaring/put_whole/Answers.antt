use Rattle.std.proofs.Common.{◌≡◌, ◌+◌, ◌++◌, [], length, vec_items, ap, ◌∙◌, arith}
use Rattle.icp.specs.Contents.{filter_fields}
use Rattle.icp.specs.Writing.{begins}
use Rattle.icp.proofs.Messages.{whole_written}
use Rattle.icp.proofs.declaring.put_whole.Goals as goal

pub returns : goal.returns
returns c =
    let s = c.args.summary.now in
    let octets = vec_items s.octets in
    let n = 32 + c.octets-length.result in
    let sized = ap (λ z. z.positions) c.size-size.ensures in
    let long : n ≡ 32 + length octets = let a = s.long in let b = s.octets.ok.0 in let d = c.octets-length.ensures in omega arith in
    whole_written s.size.positions c.args.sender c.args.version n c.octets.result c.filter_fields-filter.result c.args.out.now c.put_parts.new.out octets
    c.octets.ensures (c.filter_fields-filter.ensures ∙ ap (λ p. filter_fields p 0) (c.positions.ensures ∙ sized)) long
    (c.put_parts.ensures ∙ ap (λ z. begins (c.octets.result ++ (c.filter_fields-filter.result ++ (z ++ []))) c.args.out.now) c.octets-2.ensures)
