-- `enciphering::store_ctr` meets its contract. Assumes nothing.
use mathlib.Core.Path.{sym, ap}
use Prim.Native.Nat.{ℕ, ◌+◌}
use lib.ListN.{length}
use borrow.Author.Rules.{rules}
use Rattle.ctr_spec.specs.CounterMode.{ctr}
use Rattle.ctr_spec.proofs.Stream.{ctr_length}
use Rattle.places.proofs.Parts.{overlay_lent}
use Rattle.enciphering.proofs.store_ctr.Goals as goal

pub returns : goal.returns
returns c =
    let a = c.args in
    let bytes = ctr a.key.now a.iv.now a.text.now in
    rw c.ctr_into.ensures
    (overlay_lent a.at (a.at + length a.text.now) a.device.now bytes
    (ap (λ (n : ℕ). a.at + n) (sym (ctr_length a.key.now a.iv.now a.text.now))) (search rules))
