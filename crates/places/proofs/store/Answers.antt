-- `places::store` meets its contract. Assumes nothing.
use mathlib.Core.Path.{refl}
use Prim.Native.Nat.{◌+◌}
use lib.ListN.{length}
use borrow.Author.Rules.{rules}
use Rattle.places.proofs.Parts.{overlay_lent}
use Rattle.places.proofs.store.Goals as goal

pub returns : goal.returns
returns c =
    let a = c.args in
    rw c.copy.ensures
    (overlay_lent a.at (a.at + length a.d.now) a.device.now a.d.now refl (search rules))
