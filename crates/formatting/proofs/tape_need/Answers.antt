-- `formatting::tape_need` meets its contract. Assumes nothing.
use mathlib.Core.Path.{ap₂}
use Prim.Native.Nat.{ℕ, ◌+◌, ◌*◌}
use native.Mathlib.Omega.{arith}
use Rattle.model.specs.Format.{format_need}
use Rattle.model.proofs.Bounds.{map_blocks_small, device_length_small}
use Rattle.formatting.proofs.Counts.{volumes_small}
use Rattle.formatting.proofs.tape_need.Goals as goal

pub overflow_mul-result : goal.overflow_mul-result
overflow_mul-result c = omega (arith, map_blocks_small c.args.g c.requires.0)

pub overflow_add-result : goal.overflow_add-result
overflow_add-result c = omega (arith, map_blocks_small c.args.g c.requires.0)

pub overflow_mul-result-2 : goal.overflow_mul-result-2
overflow_mul-result-2 c =
    omega (arith, volumes_small c.args.g c.args.n c.map_blocks.result c.requires.0 c.requires.1 c.map_blocks.ensures)

pub overflow_add-result-2 : goal.overflow_add-result-2
overflow_add-result-2 c =
    let a = c.args in
    omega (arith, volumes_small a.g a.n c.map_blocks.result c.requires.0 c.requires.1 c.map_blocks.ensures, device_length_small a.g c.requires.0)

pub returns : goal.returns
unfolding format_need
returns c =
    ap₂ (λ (l m : ℕ). l + c.args.n * (88 + 16 * m)) c.device_length.ensures c.map_blocks.ensures
