-- `formatting::lower_opens` meets its contract. Assumes nothing.
use mathlib.Core.Path.{ap, ◌∙◌}
use mathlib.Core.List.{List}
use Prim.Native.Nat.{ℕ}
use native.Mathlib.Omega.{arith}
use Rattle.model.specs.Geometry.{cell_of}
use Rattle.model.specs.Format.{made_cell}
use Rattle.model.proofs.Cells.{lower_opens_ext}
use Rattle.model.proofs.Drawn.{cell_patches_stand}
use Rattle.formatting.proofs.lower_opens.Goals as goal

pub returns : goal.returns
returns c =
    let a = c.args in
    let ok = c.requires in
    c.any_lower.ensures
    ∙ lower_opens_ext (cell_of c.seal_cells.new.device) (made_cell a.g a.n a.keys.now a.drawn.now) a.keys.now a.n
    (λ j l.
    ap (λ (d : List ℕ). cell_of d j) c.seal_cells.ensures
    ∙ cell_patches_stand a.g a.n a.drawn.now ok.long a.keys.now a.n _ (omega arith) (omega (arith, ok.most)) j l)
