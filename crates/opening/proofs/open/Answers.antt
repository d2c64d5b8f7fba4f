-- `opening::open` meets its contract. Assumes nothing.
use mathlib.Core.Path.{refl, sym, ap, ◌∙◌}
use Prim.Native.Nat.{ℕ}
use lib.ListN.{replicate}
use Rattle.model.specs.Session.{unmapped}
use Rattle.model.proofs.Requests.{open_refusal_none}
use Rattle.opening.proofs.Outcomes.{open_model_refused, open_model_served, leaves_refused, leaves_by}
use Rattle.opening.proofs.open.Goals as goal

pub returns-in-Err : goal.returns-in-Err
returns-in-Err c =
    let a = c.args in
    leaves_refused a.maps.now a.owners.now c.in-Err.r
    (open_model_refused a.device.now a.g a.key.now a.maps.now a.owners.now a.perm.now c.in-Err.r c.in-Err.ensures)
    refl refl c.refused.ensures

pub open_volumes-requires : goal.open_volumes-requires
open_volumes-requires c =
    let handed = open_refusal_none _ _ _ _ _ _ (sym c.in_default.ensures) in (
      handed.allowed,
      handed.long,
      handed.key_long,
      c.unmap.ensures ∙ ap (λ (n : ℕ). replicate n unmapped) handed.tables.0,
      c.clear.ensures ∙ ap (λ (n : ℕ). replicate n 0) handed.tables.1,
    )

pub returns : goal.returns
returns c =
    let a = c.args in
    leaves_by
    (sym (open_model_served a.device.now a.g a.key.now a.maps.now a.owners.now a.perm.now c.in_default.ensures))
    _ _ _ _ c.open_volumes.ensures
