-- `mapping::store_map_in` meets its contract: the entries are stored right behind the IV. Assumes nothing.
use mathlib.Core.Path.{sym, ap, ap₂, ◌∙◌}
use mathlib.Core.List.{List}
use Prim.Native.Nat.{ℕ, ◌+◌}
use Rattle.ctr_spec.specs.CounterMode.{ctr}
use Rattle.model.specs.Parts.{overlay}
use Rattle.mapping.specs.Rows.{row_text}
use Rattle.places.proofs.Parts.{overlay_append}
use Rattle.mapping.proofs.store_map_in.Goals as goal

pub returns : goal.returns
returns c =
    let a = c.args in
    let entries = ctr a.key.now a.iv.now (row_text a.row.now a.g a.t) in
    c.store_ctr.ensures
    ∙ ap₂ (λ (s x : List ℕ). overlay s (a.at + 16) (ctr a.key.now a.iv.now x)) c.store.ensures c.map_text.ensures
    ∙ ap (λ (n : ℕ). overlay (overlay a.device.now a.at a.iv.now) (a.at + n) entries) (sym c.requires.3)
    ∙ overlay_append a.device.now a.at a.iv.now entries
