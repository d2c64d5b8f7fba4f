-- `making::seal_cells` meets its contract. After i turns the first i cells are stored. Assumes nothing.
use mathlib.Core.Path.{◌≡◌}
use Rattle.model.specs.Parts.{patched}
use Rattle.model.specs.Format.{cell_patches}
use Rattle.making.proofs.seal_cells.Given as goal

abbrev pub invariant-loop-i : goal.invariant-loop-i
invariant-loop-i l = l.device ≡ patched (cell_patches l.g l.n l.keys l.drawn l.i) l.initial.device
