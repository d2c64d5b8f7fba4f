-- `mapping::store_block_of` meets its contract: the row that it lends is that of the volume, and the block lies on the device. Assumes
-- nothing.
use mathlib.Core.Path.{◌≡◌, refl, ap, ap₂, ◌∙◌}
use mathlib.Core.List.{List}
use Prim.Native.Nat.{ℕ, ◌+◌, ◌*◌, ◌/◌, ◌≤◌}
use native.Mathlib.Nat.{mul-le-mul_right}
use native.Mathlib.Omega.{arith}
use lib.ListN.{length}
use Rattle.model.specs.Parts.{overlay}
use Rattle.model.specs.Maps.{map_block, map_block_of}
use Rattle.model.proofs.Parts.{part_lent}
use Rattle.mapping.specs.Rows.{row_block}
use Rattle.mapping.proofs.Rows.{block_lies, row_block-map}
use Rattle.mapping.proofs.store_block_of.Goals as goal

pub overflow_add-at : goal.overflow_add-at
overflow_add-at c =
    let w = block_lies c.args.g c.requires.0 c.args.volume _ c.requires.4 c.requires.5 c.entries_per_block.ensures c.map_start.ensures c.requires.6 in
    omega (arith, w.end, w.small)

pub store_map-requires : goal.store_map-requires
store_map-requires c =
    let p = c.requires in
    let w = block_lies c.args.g p.0 c.args.volume _ p.4 p.5 c.entries_per_block.ensures c.map_start.ensures p.6 in
    (p.0, p.2, w.inside, p.3, omega (arith, w.end))

pub returns : goal.returns
returns c =
    let a = c.args in
    let p = c.requires in
    let t : ℕ = a.logical / c.entries_per_block.result in
    let t_block : t ≡ map_block_of a.g a.logical = ap (λ (n : ℕ). a.logical / n) c.entries_per_block.ensures in
    let row_inside : a.volume * a.g.p + a.g.p ≤ length a.maps.now =
    omega (arith, p.1, mul-le-mul_right {m = a.volume + 1} {n = 15} a.g.p (omega (arith, p.4))) in
    let at = c.map_start.result + a.g.b * t in
    c.store_map.ensures
    ∙ ap (λ (row : List ℕ). overlay a.device.now at (row_block row a.g a.key.now t a.iv.now))
    (part_lent a.maps.now (a.volume * a.g.p) a.g.p refl)
    ∙ ap (overlay a.device.now at) (row_block-map a.maps.now a.g a.key.now a.volume t a.iv.now row_inside)
    ∙ ap₂ (λ (from n : ℕ). overlay a.device.now (from + a.g.b * n) (map_block a.maps.now a.g a.key.now a.volume n a.iv.now))
    c.map_start.ensures t_block
