-- `lanes::sub_rows` meets its contract: after r turns the first r rows are done, and after j turns inside the first j lanes of row r.
-- Assumes nothing.
use Prim.Native.Nat.{◌*◌}
use native.Mathlib.Omega.{arith}
use Rattle.circuit.specs.Circuit.{sub_words}
use Rattle.lanes.proofs.Turns.{rows_none, row_none, row_more, rows_more, rows_done}
use Rattle.lanes.proofs.sub_rows.Goals as goal

pub loop-r-init : goal.loop-r-init
loop-r-init c = rows_none _ _

pub loop-j-init : goal.loop-j-init
loop-j-init c = row_none _ _ _

pub loop-j-preserved : goal.loop-j-preserved
loop-j-preserved c =
    let inner = c.loop-j in
    let outer = c.loop-r in
    row_more sub_words (128 * outer.r) inner.j outer.s inner.s _ _ _ inner.invariant c.get_row.ensures c.sub8-y.ensures c.put_row.ensures

pub loop-r-preserved : goal.loop-r-preserved
loop-r-preserved c =
    let inner = c.loop-j in
    let outer = c.loop-r in
    rows_more outer.r _ inner.j _ outer.s inner.s (omega arith) outer.invariant inner.invariant

pub returns : goal.returns
returns c = rows_done c.loop-r.r _ _ _ _ (omega arith) c.loop-r.invariant
