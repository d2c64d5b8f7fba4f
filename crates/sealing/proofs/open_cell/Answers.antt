-- `sealing::open_cell` meets its contract: the parts that it lends are those of the cell. Assumes nothing.
use mathlib.Core.Path.{refl}
use mathlib.Core.List.{[], ◌∷◌}
use Prim.Native.Nat.{◌+◌, ◌*◌}
use native.Mathlib.Omega.{arith}
use Rattle.sealing.proofs.Cells.{part_inner, open_parts}
use Rattle.sealing.proofs.open_cell.Goals as goal

pub returns : goal.returns
returns c =
    let a = c.args in
    let device = a.device.now in
    let start = 16 + 60 * a.i in
    let o = c.open_into.ensures in
    let q = open_parts a.key.now (a.i ∷ []) a.vmk.now
    (part_inner device start 60 0 12 start (omega arith) (omega arith))
    (part_inner device start 60 12 32 (start + 12) refl (omega arith))
    (part_inner device start 60 44 16 (start + 12 + 32) (omega arith) (omega arith))
    o.right o.output in record { opens = q.0; vmk = q.1 }
