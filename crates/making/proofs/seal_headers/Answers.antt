-- `making::seal_headers` meets its contract. After i turns the headers and maps of the first i volumes are stored. Assumes nothing.
use mathlib.Core.Path.{ap, ◌∙◌}
use mathlib.Core.List.{List}
use Prim.Native.Nat.{ℕ}
use Rattle.model.specs.Parts.{overlay}
use Rattle.model.specs.Geometry.{header_start, map_start}
use Rattle.model.specs.Format.{made_header, made_map}
use Rattle.making.proofs.Made.{header_patches_turn, header_patches_none}
use Rattle.making.proofs.seal_headers.Goals as goal

pub loop-i-init : goal.loop-i-init
loop-i-init c = let a = c.args in header_patches_none a.g a.n a.drawn.now a.device.now a.counts.now

pub loop-i-preserved : goal.loop-i-preserved
loop-i-preserved c =
    let l = c.loop-i in
    let a = c.args in
    let header = made_header a.g a.n a.counts.now a.drawn.now l.i in
    let maps = made_map a.g a.n a.drawn.now l.i in
    c.store_map.ensures
    ∙ ap (λ (d : List ℕ). overlay d (map_start a.g l.i) maps)
    (c.seal_header.ensures ∙ ap (λ (d : List ℕ). overlay d (header_start a.g l.i) header) l.invariant)
    ∙ header_patches_turn a.g a.n a.drawn.now a.device.now a.counts.now l.i
