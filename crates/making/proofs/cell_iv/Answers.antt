-- `making::cell_iv` meets its contract. Assumes nothing.
use native.Mathlib.Omega.{arith}
use Rattle.making.proofs.Draws.{cell_iv_end, drawn_small}
use Rattle.making.proofs.cell_iv.Goals as goal

pub overflow_add-device_length : goal.overflow_add-device_length
overflow_add-device_length c = omega (arith, drawn_small c.requires)

pub overflow_add-device_length-2 : goal.overflow_add-device_length-2
overflow_add-device_length-2 c = omega (arith, drawn_small c.requires)

pub bytes_at-requires : goal.bytes_at-requires
bytes_at-requires c = omega (arith, cell_iv_end c.requires)
