-- `making::seal_cell` meets its contract. Assumes nothing.
use mathlib.Core.Path.{refl, ◌∙◌}
use Rattle.making.proofs.Made.{sealed-same}
use Rattle.making.proofs.seal_cell.Goals as goal

pub returns : goal.returns
returns c =
    let a = c.args in
    c.store_sealed.ensures
    ∙ sealed-same a.device.now a.i refl c.key_in-key.ensures.0 c.cell_iv-iv.ensures.0
    c.vmk_in-vmk.ensures.0
