-- `sealing::first_cell` meets its contract. The loop's invariant: the lowest cell that opens is the lowest of those not yet
-- tried. Assumes nothing.
use mathlib.Core.Path.{◌≡◌}
use Prim.Native.Nat.{◌-◌}
use Rattle.model.specs.Geometry.{cell_of}
use Rattle.model.specs.Opening.{first_cell}
use Rattle.sealing.proofs.first_cell.Given as goal

abbrev pub invariant-loop-i : goal.invariant-loop-i
invariant-loop-i l = first_cell l.key (cell_of l.device) l.n 0 ≡ first_cell l.key (cell_of l.device) (l.n - l.i) l.i
