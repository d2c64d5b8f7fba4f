-- `formatting::any_lower` meets its contract. The loop's invariant: none of the keys tried opens a cell below its own. Assumes nothing.
use mathlib.Core.Path.{◌≡◌}
use mathlib.Core.Bool.{false}
use Rattle.model.specs.Geometry.{cell_of}
use Rattle.model.specs.Format.{lower_opens}
use Rattle.formatting.proofs.any_lower.Given as goal

abbrev pub invariant-loop-i : goal.invariant-loop-i
invariant-loop-i l = lower_opens l.keys (cell_of l.cells) l.i ≡ false
