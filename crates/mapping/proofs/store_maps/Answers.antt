-- `mapping::store_maps` meets its contract. After t turns the first t map blocks are stored. Assumes nothing.
use mathlib.Core.Path.{◌≡◌, refl, sym, ap, ap₂, ◌∙◌}
use mathlib.Core.List.{List}
use Prim.Native.Nat.{ℕ, ◌+◌, ◌*◌}
use native.Mathlib.Omega.{arith}
use Rattle.model.specs.Parts.{overlay, joined}
use Rattle.mapping.specs.Rows.{row_block, row_bytes}
use Rattle.model.proofs.Parts.{part_lent, part_lent_length}
use Rattle.places.proofs.Parts.{overlay_none}
use Rattle.mapping.proofs.Rows.{map_lies, block_bytes, row_bytes_turn}
use Rattle.mapping.proofs.store_maps.Goals as goal

pub loop-t-init : goal.loop-t-init
loop-t-init c = sym (overlay_none _ _ _)

pub overflow_mul-t : goal.overflow_mul-t
overflow_mul-t c =
    let w = map_lies c.args.g c.requires.0 c.args.volume c.loop-t.t c.requires.2 c.map_start-start.ensures c.requires.4 c.map_blocks-m.ensures (omega arith) in
    omega (arith, w.end, w.small)

pub overflow_add-start : goal.overflow_add-start
overflow_add-start c =
    let w = map_lies c.args.g c.requires.0 c.args.volume c.loop-t.t c.requires.2 c.map_start-start.ensures c.requires.4 c.map_blocks-m.ensures (omega arith) in
    omega (arith, w.end, w.small)

pub store_map-requires : goal.store_map-requires
store_map-requires c =
    let p = c.requires in
    let l = c.loop-t in
    let w = map_lies c.args.g p.0 c.args.volume l.t p.2 c.map_start-start.ensures p.4 c.map_blocks-m.ensures (omega arith) in
    let iv = part_lent_length c.args.tape.now (c.args.position + 16 * l.t) 16 (omega (arith, w.inside, p.3)) in
    (p.0, p.1, w.inside, iv, omega (arith, w.end))

pub loop-t-preserved : goal.loop-t-preserved
loop-t-preserved c =
    let p = c.requires in
    let l = c.loop-t in
    let a = c.args in
    let at = c.map_start-start.result + l.t * a.g.b in
    let f = block_bytes a.row.now a.g a.key.now a.tape.now a.position in
    let w = map_lies a.g p.0 a.volume l.t p.2 c.map_start-start.ensures p.4 c.map_blocks-m.ensures (omega arith) in
    c.store_map.ensures
    ∙ ap (λ (iv : List ℕ). overlay l.device at (row_block a.row.now a.g a.key.now l.t iv))
    (part_lent a.tape.now (a.position + 16 * l.t) 16 refl)
    ∙ ap (λ (d : List ℕ). overlay d at (f l.t)) l.invariant
    ∙ row_bytes_turn a.row.now a.g a.key.now a.tape.now a.position p.0 a.device.now c.map_start-start.result l.t
    (omega (arith, w.inside, p.3))

pub returns : goal.returns
unfolding row_bytes
returns c =
    let a = c.args in
    let l = c.loop-t in
    let all : l.t ≡ c.map_blocks-m.result = omega arith in
    l.invariant
    ∙ ap₂ (λ (s n : ℕ).
    overlay a.device.now s (joined n (block_bytes a.row.now a.g a.key.now a.tape.now a.position)))
    c.map_start-start.ensures (all ∙ c.map_blocks-m.ensures)
