-- `planes::mixed` meets its contract: its rows are turned, then mixed. Assumes nothing.
use mathlib.Core.Path.{◌∙◌, ap}
use Rattle.planes.specs.Rounds.{right_row, added_rows, mixed_rows, mixed_lane}
use Rattle.planes.proofs.Same.{same_rows}
use Rattle.planes.proofs.mixed.Goals as goal

pub returns : goal.returns
unfolding mixed_lane mixed_rows
returns c =
    let k = c.args.k in
    c.keyed.ensures
    ∙ same_rows (λ a b c d. added_rows a b c d k.now) c.mix_row.ensures c.mix_row-2.ensures
    c.mix_row-3.ensures c.mix_row-4.ensures
    ∙ same_rows (λ a b c d. mixed_rows a b c d k.now)
    (c.right_row-a.ensures ∙ ap (right_row 48) c.row.ensures)
    (c.right_row-b.ensures ∙ ap (right_row 32) c.row-2.ensures)
    (c.right_row-c.ensures ∙ ap (right_row 16) c.row-3.ensures)
    c.row-d.ensures
