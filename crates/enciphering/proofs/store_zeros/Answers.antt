-- `enciphering::store_zeros` meets its contract. Assumes nothing.
use mathlib.Core.Path.{ap}
use mathlib.Core.List.{List}
use Prim.Native.Nat.{ℕ}
use Rattle.ctr_spec.specs.CounterMode.{ctr}
use Rattle.model.specs.Parts.{overlay}
use Rattle.model.proofs.Parts.{take-replicate}
use Rattle.enciphering.proofs.store_zeros.Goals as goal

pub returns : goal.returns
returns c =
    let a = c.args in
    rw c.store_ctr.ensures
    (ap (λ (t : List ℕ). overlay a.device.now a.at (ctr a.key.now a.iv.now t)) (take-replicate a.b 4096 0 c.requires.b_bound))
