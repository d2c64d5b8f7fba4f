-- `sealing::first_cell` meets its contract. The loop's invariant: the lowest cell that opens is the lowest of those not yet
-- tried. Assumes nothing.
use mathlib.Core.Path.{refl, sym, ◌∙◌}
use Prim.Native.Nat.{◌-◌}
use native.Mathlib.Omega.{arith}
use Rattle.model.specs.Geometry.{cell_of}
use Rattle.sealing.proofs.Cells.{first_cell_opens, first_cell_passes, first_cell_done}
use Rattle.sealing.proofs.first_cell.Goals as goal

pub returns-then-open_cell : goal.returns-then-open_cell
returns-then-open_cell c =
    let l = c.loop-i in
    let a = c.args in
    let o = c.open_cell.ensures in
    rw l.invariant
    (first_cell_opens a.key.now (cell_of a.device.now) a.n l.i l.vmk _ (omega arith) (sym o.opens ∙ c.if-open_cell.true) o.vmk)

pub loop-i-preserved : goal.loop-i-preserved
loop-i-preserved c =
    let l = c.loop-i in
    let a = c.args in
    let o = c.open_cell.ensures in
    l.invariant
    ∙ first_cell_passes a.key.now (cell_of a.device.now) a.n l.i (omega arith) (sym o.opens ∙ c.if-open_cell.false)

pub returns : goal.returns
returns c =
    let l = c.loop-i in
    let a = c.args in
    rw (l.invariant ∙ first_cell_done a.key.now (cell_of a.device.now) (a.n - l.i) l.i (omega arith)) refl
