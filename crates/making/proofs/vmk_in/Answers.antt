-- `making::vmk_in` meets its contract. Assumes nothing.
use native.Mathlib.Omega.{arith}
use Rattle.making.proofs.Draws.{keys_end, drawn_small}
use Rattle.making.proofs.vmk_in.Goals as goal

pub overflow_add-device_length : goal.overflow_add-device_length
overflow_add-device_length c = omega (arith, drawn_small c.requires)

pub bytes_at-requires : goal.bytes_at-requires
bytes_at-requires c = omega (arith, keys_end c.requires)
