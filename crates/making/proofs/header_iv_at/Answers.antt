-- `making::header_iv_at` meets its contract. Assumes nothing.
use native.Mathlib.Omega.{arith}
use Rattle.model.proofs.Bounds.{map_blocks_small, device_length_small}
use Rattle.making.proofs.Draws.{ivs_small}
use Rattle.making.proofs.header_iv_at.Goals as goal

pub overflow_add-result : goal.overflow_add-result
overflow_add-result c = omega (arith, device_length_small c.args.g c.requires.0)

pub overflow_mul-result-2 : goal.overflow_mul-result-2
overflow_mul-result-2 c = omega (arith, map_blocks_small c.args.g c.requires.0)

pub overflow_add-result-2 : goal.overflow_add-result-2
overflow_add-result-2 c = omega (arith, map_blocks_small c.args.g c.requires.0)

pub overflow_mul-result-3 : goal.overflow_mul-result-3
overflow_mul-result-3 c =
    let a = c.args in
    omega (arith, ivs_small a.g c.map_blocks.result a.n a.i c.requires.0 c.map_blocks.ensures c.requires.1 c.requires.2)

pub overflow_add-result-3 : goal.overflow_add-result-3
overflow_add-result-3 c =
    let a = c.args in
    omega (
      arith,
      device_length_small a.g c.requires.0,
      ivs_small a.g c.map_blocks.result a.n a.i c.requires.0 c.map_blocks.ensures c.requires.1 c.requires.2,
    )
