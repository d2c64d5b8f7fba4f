-- `planes::keyed` meets its contract, row by row. Assumes nothing.
use mathlib.Core.Path.{◌∙◌, ap}
use mathlib.Core.List.{◌++◌}
use Rattle.packing.specs.Planes.{row_from}
use Rattle.mix.specs.Mix.{sum_words}
use Rattle.planes.specs.Rounds.{added_rows}
use Rattle.planes.proofs.Same.{same_rows}
use Rattle.planes.proofs.keyed.Goals as goal

pub returns : goal.returns
unfolding added_rows sum_words
returns c =
    c.joined.ensures
    ∙ same_rows (λ p q r s. row_from p 0 ++ (row_from q 0 ++ (row_from r 0 ++ row_from s 0)))
    (c.sum_row.ensures ∙ ap (sum_words c.args.a) c.row.ensures)
    (c.sum_row-2.ensures ∙ ap (sum_words c.args.b) c.row-2.ensures)
    (c.sum_row-3.ensures ∙ ap (sum_words c.args.c) c.row-3.ensures)
    (c.sum_row-4.ensures ∙ ap (sum_words c.args.d) c.row-4.ensures)
