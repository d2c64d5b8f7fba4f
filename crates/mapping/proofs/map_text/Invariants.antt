-- `mapping::map_text` meets its contract. After e turns the first e entries are stored. Assumes nothing.
use mathlib.Core.Path.{◌≡◌}
use Rattle.model.specs.Parts.{overlay, joined}
use Rattle.mapping.specs.Rows.{row_entry}
use Rattle.mapping.proofs.map_text.Given as goal

abbrev pub invariant-loop-e : goal.invariant-loop-e
invariant-loop-e l = l.buf ≡ overlay l.initial.buf 0 (joined l.e (row_entry l.row l.n l.t))
