-- `sealing::store_sealed` meets its contract. Assumes nothing.
use mathlib.Core.Path.{refl}
use Rattle.sealing.proofs.Sealed.{sealed_stored}
use Rattle.sealing.proofs.store_sealed.Goals as goal

pub returns : goal.returns
returns c =
    let a = c.args in
    let o = c.seal_into.ensures in
    sealed_stored a.device.now a.at a.key.now a.iv.now a.text.now a.byte c.requires.1 c.requires.3
    c.store.ensures o.output o.tag refl c.store-2.ensures
