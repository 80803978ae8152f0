use Rattle.std.proofs.Common.{◌≡◌, length, replicate, None, ap, ◌∙◌, arith}
use Rattle.store.specs.declared.cell.Cell.TheVariants.{Never}
use Rattle.store.proofs.index.HashedIndex.new.Goals as goal

pub returns : goal.returns
returns c =
    let rows : length c.args.rows.now ≡ c.args.places = omega arith in
    let cells : length c.args.cells.now ≡ 2048 = omega arith in
    ((omega arith, omega arith), c.clear_rows.ensures ∙ ap (λ n. replicate n None) rows, c.clear_cells.ensures ∙ ap (λ n. replicate n Never) cells)
