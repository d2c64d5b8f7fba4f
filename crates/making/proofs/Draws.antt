-- Bounds of the bytes that a formatting draws: no place among them wraps, and each part lies inside. Assumes nothing.
use Prim.Native.Nat.{ℕ, ◌+◌, ◌*◌, ◌^◌, ◌≤◌, ◌<◌}
use mathlib.Core.Path.{◌≡◌}
use native.Mathlib.Nat.{mul-le-mul_left}
use native.Mathlib.Omega.{arith}
use Rattle.model.specs.declared.Geometry.{Geometry}
use Rattle.model.specs.Geometry.{Allowed, map_blocks, device_length}
use Rattle.model.specs.Format.{header_iv_at, format_need}
use Rattle.model.proofs.Bounds.{map_blocks_small, device_length_small}
use Rattle.model.proofs.Drawn.{ivs_inside}
use Rattle.making.specs.Drawn.{Drawn}

-- The bytes of the IVs before volume i, with m map blocks to each, are few.
pub ivs_small : (g : Geometry) (m n i : ℕ) → Allowed g → m ≡ map_blocks g → n ≤ 15 → i < n → (12 + 16 * m) * i ≤ 284 * 14
ivs_small g m n i ok e most below =
    let few : m ≤ 17 = omega (arith, map_blocks_small g ok) in
    let low : i ≤ 14 = omega arith in
    omega (arith, mul-le-mul_left (12 + 16 * m) low)

-- The keys, the cell's IV and the IVs of volume i lie among the bytes drawn.
module _ {g : Geometry} {n i drawn : ℕ} (d : Drawn g n i drawn) where
  pub keys_end : device_length g + 64 * i + 64 ≤ drawn
  unfolding format_need
  keys_end = omega (arith, d.below, d.long)

  pub cell_iv_end : device_length g + 64 * n + 12 * i + 12 ≤ drawn
  unfolding format_need
  cell_iv_end = omega (arith, d.below, d.long)

  pub ivs_end : header_iv_at g n i + (12 + 16 * map_blocks g) ≤ drawn
  ivs_end = ivs_inside g n drawn d.long i d.below

  pub drawn_small : (device_length g < 2 ^ 63) × (i < 15) × (n ≤ 15)
  drawn_small = (device_length_small g d.allowed, omega (arith, d.below, d.most), d.most)
