use Rattle.std.proofs.Common.{◌+◌, ◌*◌, vec_items, sym, refl, ap, ◌∙◌}
use Rattle.icp.specs.Contents.{filter_fields}
use Rattle.icp.proofs.Changes.{length_changed}
use Rattle.icp.proofs.Messages.{list_written}
use Rattle.icp.proofs.declaring.ChangeList.put.Goals as goal

pub returns : goal.returns
returns c =
    let l = c.args.self in
    let t = l.after.now in
    let a = vec_items l.before.now.octets in
    let b = vec_items t.octets in
    let m = t.size.positions in
    let sized = ap (λ z. z.positions) c.size.ensures in
    list_written m c.args.sender c.args.version (32 + 4 * l.count) c.octets.result c.filter_fields-filter.result c.args.out.now c.put_entries.new.out a b c.put_parts.new.out l.count
    c.octets.ensures (c.filter_fields-filter.ensures ∙ ap (λ p. filter_fields p l.count) (c.positions.ensures ∙ sized)) (l.counted ∙ sym (length_changed a b m)) refl
    c.put_parts.ensures c.put_entries.ensures
