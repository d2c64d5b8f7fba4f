-- `planes::every_block` meets its contract. Assumes nothing.
use mathlib.Core.Path.{refl}
use Prim.Native.Nat.{◌/◌, ◌^◌}
use native.Mathlib.Omega.{arith}
use lib.Bits.{and_le_r}
use Rattle.planes.specs.Rounds.{every_block}
use Rattle.planes.proofs.every_block.Goals as goal

pub overflow_mul-result : goal.overflow_mul-result
overflow_mul-result c = omega (arith, and_le_r (c.args.x / 2 ^ c.args.n) 0x0001000100010001)

pub returns : goal.returns
unfolding every_block
returns c = refl
