-- A bound of the tape bytes that a formatting needs: their number does not wrap. Assumes nothing.
use Prim.Native.Nat.{ℕ, ◌+◌, ◌*◌, ◌≤◌}
use mathlib.Core.Path.{◌≡◌}
use native.Mathlib.Nat.{mul-le-mul_right}
use native.Mathlib.Omega.{arith}
use Rattle.model.specs.declared.Geometry.{Geometry}
use Rattle.model.specs.Geometry.{Allowed, map_blocks}
use Rattle.model.proofs.Bounds.{map_blocks_small}

-- The bytes of n volumes with m map blocks each are few.
pub volumes_small : (g : Geometry) (n m : ℕ) → Allowed g → n ≤ 15 → m ≡ map_blocks g → n * (88 + 16 * m) ≤ 15 * 360
volumes_small g n m ok most e =
    let few : m ≤ 17 = omega (arith, map_blocks_small g ok) in
    omega (arith, mul-le-mul_right (88 + 16 * m) most)
