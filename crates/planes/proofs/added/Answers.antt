-- `planes::added` meets its contract, row by row. Assumes nothing.
use mathlib.Core.Path.{◌∙◌}
use Rattle.planes.specs.Rounds.{added_rows, added_lane}
use Rattle.planes.proofs.Same.{same_rows}
use Rattle.planes.proofs.added.Goals as goal

pub returns : goal.returns
unfolding added_lane
returns c =
    let k = c.args.k in
    c.keyed.ensures
    ∙ same_rows (λ a b c d. added_rows a b c d k.now) c.row.ensures c.row-2.ensures c.row-3.ensures
    c.row-4.ensures
