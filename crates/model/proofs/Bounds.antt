-- Bounds of an allowed geometry: its numbers are small, and every place lies on the device. Assumes nothing.
use Prim.Native.Nat.{ℕ, ◌+◌, ◌-◌, ◌*◌, ◌/◌, ◌^◌, ◌≤◌, ◌<◌}
use mathlib.Core.Path.{◌≡◌, refl}
use mathlib.Core.Logic.{⊎_elim}
use native.Mathlib.Nat.{mul-le-mul, mul-le-mul_left, mul-le-mul_right, mod-lt, div-add-mod', div-lt_iff_lt-mul, le-div_iff_mul-le}
use native.Mathlib.Omega.{arith}
use lib.Arith.{digits_lt}
use Rattle.model.specs.declared.Geometry.{Geometry}
use Rattle.model.specs.Geometry.{Allowed, per_block, map_blocks, header_blocks, device_length}
use Rattle.model.specs.Geometry.{cell_start, header_start, map_start, slice_start, slice_size, iv_start, block_start}
use Rattle.model.specs.Session.{slot, slice_of, offset_of}

module _ (g : Geometry) (ok : Allowed g) where
  -- ---- numbers

  pub b_bounds : (1024 ≤ g.b) × (g.b ≤ 4096)
  b_bounds = ⊎_elim (λ e. (omega arith, omega arith)) (λ e. (omega arith, omega arith)) ok.block

  pub s_small : g.s ≤ 256
  s_small = omega (arith, ok.slice_most, b_bounds.1)

  pub map_blocks_small : map_blocks g ≤ 17
  unfolding map_blocks
  map_blocks_small = let p = ok.slices_most in ⊎_elim (λ e. rw e (omega arith)) (λ e. rw e (omega arith)) ok.block

  pub header_blocks_small : header_blocks g ≤ 271
  unfolding header_blocks
  header_blocks_small = omega (arith, map_blocks_small)

  -- The blocks of n slices, and the bytes up to their end.
  pub slices_small : (n : ℕ) → n ≤ g.p → n * (g.s + 1) ≤ 4096 * 257
  slices_small n l = mul-le-mul {n₂ = 4096} {m₂ = 257} (omega (arith, ok.slices_most)) (omega (arith, s_small))

  pub bytes_small : (n : ℕ) → n ≤ g.p → g.b * (header_blocks g + n * (g.s + 1)) ≤ 4096 * (271 + 4096 * 257)
  bytes_small n l = mul-le-mul {n₂ = 4096} {m₂ = 271 + 4096 * 257} b_bounds.1 (omega (arith, header_blocks_small, slices_small n l))

  pub device_length_small : device_length g < 2 ^ 63
  unfolding device_length
  device_length_small = omega (arith, bytes_small g.p (omega arith))

  -- The blocks of i headers, and the bytes up to the first map block of header i.
  pub headers_small : (i : ℕ) → i ≤ 14 → i * (1 + map_blocks g) ≤ 14 * 18
  headers_small i l = mul-le-mul {n₂ = 14} {m₂ = 18} l (omega (arith, map_blocks_small))

  pub map_start_small : (i : ℕ) → i ≤ 14 → g.b * (1 + i * (1 + map_blocks g) + 1) ≤ 4096 * 254
  map_start_small i l = mul-le-mul {n₂ = 4096} {m₂ = 254} b_bounds.1 (omega (arith, headers_small i l))

  -- The entries of a map block fill it behind its IV; those of the map blocks before block t are few.
  pub entries_fill : per_block g * 4 ≡ g.b - 16
  entries_fill = ⊎_elim (λ e. rw e refl) (λ e. rw e refl) ok.block

  pub per_block_least : 1 ≤ per_block g
  per_block_least = omega (arith, b_bounds.0)

  pub entries_small : (t : ℕ) → t < map_blocks g → t * per_block g ≤ 17 * 1020
  entries_small t l = mul-le-mul {n₂ = 17} {m₂ = 1020} (omega (arith, map_blocks_small)) (omega (arith, b_bounds.1))

  -- A block that begins within the entries of a volume is one of its map blocks; so is that of any entry.
  pub map_block_lt : (t : ℕ) → t * per_block g < g.p → t < map_blocks g
  unfolding map_blocks
  map_block_lt t l =
      let h : (t + 1) * per_block g ≤ g.p + (per_block g - 1) = omega (arith, per_block_least) in
      omega (arith, (le-div_iff_mul-le {k = per_block g} {x = t + 1} {y = g.p + (per_block g - 1)} per_block_least).1 h)

  pub map_block_of_lem : (σ : ℕ) → σ < g.p → σ / per_block g < map_blocks g
  map_block_of_lem σ l = map_block_lt (σ / per_block g) (omega (arith, div-add-mod' σ (per_block g)))

  -- ---- addresses

  pub slot_lt : (i σ : ℕ) → i ≤ 14 → σ < g.p → slot g i σ < 15 * g.p
  slot_lt i σ l h = digits_lt (omega arith) h

  pub slice_of_lt : (n a : ℕ) → a < n * g.s → slice_of g a < n
  slice_of_lt n a l = (div-lt_iff_lt-mul ok.slice_least).1 l

  pub offset_of_lt : (a : ℕ) → offset_of g a < g.s
  offset_of_lt a = mod-lt a ok.slice_least

  -- ---- places

  pub cell_fits : (i : ℕ) → i ≤ 14 → cell_start i + 60 ≤ device_length g
  unfolding device_length header_blocks
  cell_fits i l = omega (arith, b_bounds, mul-le-mul_left {m = 1} {n = header_blocks g + g.p * (g.s + 1)} g.b (omega arith))

  pub header_fits : (i : ℕ) → i ≤ 14 → header_start g i + g.b * (1 + map_blocks g) ≤ device_length g
  unfolding device_length header_blocks
  header_fits i l = omega (arith, mul-le-mul_left {m = i + 1} {n = 15} (g.b * (1 + map_blocks g)) (omega arith))

  -- The headers end on the device.
  pub headers_fit : (n : ℕ) → n ≤ 15 → header_start g n ≤ device_length g
  unfolding device_length header_blocks
  headers_fit n l = omega (arith, mul-le-mul_left (g.b * (1 + map_blocks g)) l)

  pub maps_fit : (i : ℕ) → i ≤ 14 → map_start g i + g.b * map_blocks g ≤ device_length g
  unfolding map_start
  maps_fit i l = omega (arith, header_fits i l)

  pub map_fits : (i t : ℕ) → i ≤ 14 → t < map_blocks g → map_start g i + t * g.b + g.b ≤ device_length g
  map_fits i t l h = omega (arith, maps_fit i l, mul-le-mul_left {m = t + 1} {n = map_blocks g} g.b (omega arith))

  pub slice_fits : (ψ : ℕ) → ψ < g.p → slice_start g ψ + slice_size g ≤ device_length g
  unfolding slice_start slice_size device_length
  slice_fits ψ l = omega (arith, mul-le-mul_left g.b (mul-le-mul_right (g.s + 1) l))

  -- The IVs of a slice lie in its first block, and each data block in the slice.
  pub iv_within : (j : ℕ) → j < g.s → 16 * j + 16 ≤ g.b
  iv_within j l = omega (arith, ok.slice_most)

  pub block_within : (j : ℕ) → j < g.s → g.b * (1 + j) + g.b ≤ slice_size g
  unfolding slice_size
  block_within j l = omega (arith, mul-le-mul_left g.b l)

  pub iv_within_slice : (j : ℕ) → j < g.s → 16 * j + 16 ≤ slice_size g
  iv_within_slice j l = omega (arith, iv_within j l, block_within j l)

  pub iv_fits : (ψ j : ℕ) → ψ < g.p → j < g.s → iv_start g ψ j + 16 ≤ device_length g
  unfolding iv_start
  iv_fits ψ j l h = omega (arith, slice_fits ψ l, iv_within_slice j h)

  pub block_fits : (ψ j : ℕ) → ψ < g.p → j < g.s → block_start g ψ j + g.b ≤ device_length g
  unfolding block_start
  block_fits ψ j l h = omega (arith, slice_fits ψ l, block_within j h)
