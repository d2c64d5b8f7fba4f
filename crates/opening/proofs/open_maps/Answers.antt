-- `opening::open_maps` meets its contract. Assumes nothing.
use mathlib.Core.Path.{◌≡◌, refl, ap, ap₂, ◌∙◌}
use mathlib.Core.List.{List}
use Prim.Native.Nat.{ℕ, ◌+◌, ◌*◌}
use native.Mathlib.Omega.{arith}
use lib.ListN.{length, replicate, length-replicate}
use Rattle.refusals.specs.Numbers.{refusal_number}
use Rattle.refusals.proofs.Positive.{refusal_positive}
use Rattle.model.specs.declared.Geometry.{Geometry}
use Rattle.model.specs.Geometry.{header_of}
use Rattle.model.specs.Session.{unmapped}
use Rattle.model.specs.Opening.{map_entries, load, load_maps, no_maps, no_owners}
use Rattle.tables.specs.Settled.{Settled}
use Rattle.loading.proofs.Loads.{settled_tables, settled_spoilt, settled_by}
use Rattle.opening.proofs.Outcomes.{with_tables_spoilt, leaves_refused, leaves_opened}
use Rattle.opening.proofs.open_maps.Goals as goal

-- Loading into tables that hold nothing is loading all maps.
maps_settled : (g : Geometry) (device keys counts : List ℕ) (k number : ℕ) {m o : List ℕ} (maps owners : List ℕ) → m ≡ no_maps g → o ≡ no_owners g
    → Settled (load g.p counts (map_entries g (header_of g device) keys) ((k + 1) * g.p) 0 m o) number maps owners
    → Settled (load_maps g (header_of g device) keys counts k) number maps owners
maps_settled g device keys counts k number maps owners em eo =
    settled_by (ap₂ (λ (m o : List ℕ). load g.p counts (map_entries g (header_of g device) keys) ((k + 1) * g.p) 0 m o) em eo) number maps owners

pub returns-in-Err : goal.returns-in-Err
returns-in-Err c =
    let a = c.args in
    let r = c.in-Err.r in
    let settled = maps_settled a.g a.device.now a.keys a.counts a.k _ _ _ c.requires.3 c.requires.4 c.in-Err.ensures in
    let not_served : refusal_number r ≡ 0 → ⊥ = λ e. omega (arith, refusal_positive r) in
    leaves_refused (no_maps a.g) (no_owners a.g) r
    (with_tables_spoilt a.g a.perm.now a.k a.keys a.counts (settled_spoilt _ _ _ _ settled not_served))
    (c.unmap.ensures ∙ ap (λ (n : ℕ). replicate n unmapped) (c.load_maps.auto.maps ∙ ap length c.requires.3 ∙ length-replicate (15 * a.g.p) unmapped))
    (c.clear.ensures ∙ ap (λ (n : ℕ). replicate n 0) (c.load_maps.auto.owners ∙ ap length c.requires.4 ∙ length-replicate {A = ℕ} a.g.p 0))
    c.refused.ensures

pub returns : goal.returns
returns c =
    let a = c.args in
    let settled = maps_settled a.g a.device.now a.keys a.counts a.k _ _ _ c.requires.3 c.requires.4 c.in_default.ensures in
    leaves_opened a.g a.perm.now a.k a.keys a.counts (settled_tables _ 0 _ _ settled refl)
    (c.load_maps.auto.owners ∙ ap length c.requires.4 ∙ length-replicate {A = ℕ} a.g.p 0)
    _ c.start_place-first.ensures
