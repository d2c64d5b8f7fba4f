-- `planes::moved` meets its contract, row by row. Assumes nothing.
use mathlib.Core.Path.{◌∙◌, ap}
use Rattle.planes.specs.Rounds.{right_row, added_rows, moved_lane}
use Rattle.planes.proofs.Same.{same_rows}
use Rattle.planes.proofs.moved.Goals as goal

pub returns : goal.returns
unfolding moved_lane
returns c =
    let k = c.args.k in
    c.keyed.ensures
    ∙ same_rows (λ a b c d. added_rows a b c d k.now)
    (c.right_row.ensures ∙ ap (right_row 48) c.row.ensures)
    (c.right_row-2.ensures ∙ ap (right_row 32) c.row-2.ensures)
    (c.right_row-3.ensures ∙ ap (right_row 16) c.row-3.ensures)
    c.row-4.ensures
