-- `model::layout_laws` meets its contract. Assumes nothing.
use Prim.Native.Nat.{◌+◌, ◌-◌, ◌*◌, ◌≤◌, ◌<◌}
use mathlib.Core.Path.{ap, ◌∙◌}
use native.Mathlib.Omega.{arith}
use native.Mathlib.Nat.{div-add-mod', mod-lt, div-lt_iff_lt-mul}
use lib.Arith.{digits_div, digits_mod, digits_lt}
use Rattle.model.specs.declared.Geometry.{Geometry}
use Rattle.model.specs.Geometry.{Allowed, per_block, map_blocks, header_blocks, device_length, map_start, slice_start, slice_size, iv_start, block_start}
use Rattle.model.specs.Parts.{part}
use Rattle.model.proofs.Parts.{part_next}
use Rattle.model.proofs.Bounds.{b_bounds, entries_fill, per_block_least}
use Rattle.model.proofs.layout_laws.Goals as goal

map_blocks_lem : (g : Geometry) → Allowed g → (g.p ≤ map_blocks g * per_block g) × (map_blocks g * per_block g < g.p + per_block g)
unfolding map_blocks
map_blocks_lem g ok =
    let n = g.p + (per_block g - 1) in
    let whole = div-add-mod' n (per_block g) in
    let rest = mod-lt n (per_block_least g ok) in
    (omega (arith, per_block_least g ok), omega (arith, per_block_least g ok))

pub returns : goal.returns
unfolding header_blocks device_length map_start slice_start slice_size iv_start block_start
returns c =
    record {
      map_block_lem = λ g ok. omega (arith, entries_fill g ok, b_bounds g ok);
      map_blocks_lem = map_blocks_lem;
      first_cell_lem = omega arith;
      next_cell = λ i. omega arith;
      first_header = λ g. omega arith;
      first_map = λ g i. omega arith;
      next_header = λ g i. omega arith;
      headers_end = λ g. omega arith;
      first_slice = λ g. omega arith;
      iv = λ g ψ j. omega arith;
      first_block = λ g ψ. omega arith;
      next_block = λ g ψ j. omega arith;
      next_slice = λ g ψ. omega arith;
      slice_size_lem = λ g ψ. omega arith;
      device_end = λ g. omega arith;
      key = λ s lower own upper i e l m. ap (part (32 * i) 32) e ∙ part_next lower own upper (32 * i) 32 l m;
      first_slot = λ g. omega arith;
      next_slot = λ g i σ. omega arith;
      next_row = λ g i. omega arith;
      address = λ g σ j l. (digits_div σ l, digits_mod σ l);
      blocks = λ s i σ j l m. digits_lt m l;
      within = λ s i a l m. (div-lt_iff_lt-mul l).1 m;
    }
