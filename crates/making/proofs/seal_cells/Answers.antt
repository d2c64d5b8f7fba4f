-- `making::seal_cells` meets its contract. After i turns the first i cells are stored. Assumes nothing.
use mathlib.Core.Path.{ap, ◌∙◌}
use mathlib.Core.List.{List}
use Prim.Native.Nat.{ℕ}
use Rattle.model.specs.Parts.{overlay}
use Rattle.model.specs.Geometry.{cell_start}
use Rattle.model.specs.Format.{made_cell}
use Rattle.making.proofs.Made.{cell_patches_turn, cell_patches_none}
use Rattle.making.proofs.seal_cells.Goals as goal

pub loop-i-init : goal.loop-i-init
loop-i-init c = let a = c.args in cell_patches_none a.g a.n a.drawn.now a.device.now a.keys.now

pub loop-i-preserved : goal.loop-i-preserved
loop-i-preserved c =
    let l = c.loop-i in
    let a = c.args in
    let cell = made_cell a.g a.n a.keys.now a.drawn.now l.i in
    c.seal_cell.ensures
    ∙ ap (λ (d : List ℕ). overlay d (cell_start l.i) cell) l.invariant
    ∙ cell_patches_turn a.g a.n a.drawn.now a.device.now a.keys.now l.i
