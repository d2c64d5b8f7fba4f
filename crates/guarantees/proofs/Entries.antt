-- The map table after one entry of an open volume is set: that entry, and the others as before. Assumes nothing.
use Prim.Native.Nat.{ℕ, ◌<◌}
use mathlib.Core.Path.{◌≡◌, ap, ap₂, ◌∙◌}
use mathlib.Core.List.{List}
use mathlib.Core.Logic.{◌⊎◌, inl, inr, ⊎_elim}
use native.Mathlib.Omega.{arith}
use lib.ListN.{get_or, set}
use lib.Seq.{get_or-set_same, get_or-set_other}
use Rattle.model.specs.Session.{Held, geometry, count_of, slot, entry}
use Rattle.model.proofs.Tests.{equal}
use Rattle.model.proofs.Requests.{slice_slot}
use Rattle.guarantees.specs.Rules.{table_entry}
use Rattle.guarantees.proofs.SoundTables.{OpenVolume}
use Rattle.guarantees.proofs.Blocks.{same_slot}
use Rattle.guarantees.proofs.Cases.{Stands}

-- Logical slice σ of volume i gets the entry x.
module _ (n : ℕ) (h : Held) (i σ x : ℕ) (st : Stands n h) (oi : OpenVolume h i) (below : σ < count_of h.session i) where
  abbrev maps' : List ℕ
  maps' = set h.maps (slot (geometry h) i σ) x

  abbrev entry' : ℕ → ℕ → ℕ
  entry' v τ = entry maps' (geometry h) v τ

  pub set_slice : σ < (geometry h).p
  set_slice = omega (arith, below, st.usable.counted i (omega (arith, oi)))

  pub set_entry : entry' i σ ≡ x
  set_entry = get_or-set_same h.maps (slot (geometry h) i σ) x 0 (slice_slot i σ st oi below)

  pub set_entry_other : (v τ : ℕ) → τ < (geometry h).p → (v ≡ i → τ ≡ σ → ⊥) → entry' v τ ≡ table_entry h v τ
  set_entry_other v τ hτ ne =
      get_or-set_other h.maps (slot (geometry h) i σ) (slot (geometry h) v τ) x 0
      (λ e. let q = same_slot (geometry h) v τ i σ hτ set_slice e in ne q.0 q.1)

  -- The entry that was set, or one as before.
  pub set_entry_cases : (v τ : ℕ) → τ < (geometry h).p
      → ((v ≡ i) × (τ ≡ σ) × (entry' v τ ≡ x)) ⊎ ((v ≡ i → τ ≡ σ → ⊥) × (entry' v τ ≡ table_entry h v τ))
  set_entry_cases v τ hτ =
      ⊎_elim
      (λ e. let q = same_slot (geometry h) v τ i σ hτ set_slice e in inl (q.0, q.1, ap (λ (m : ℕ). get_or maps' m 0) e ∙ set_entry))
      (λ ne. inr ((λ p q. ne (ap₂ (slot (geometry h)) p q)), set_entry_other v τ hτ (λ p q. ne (ap₂ (slot (geometry h)) p q))))
      (equal (slot (geometry h) v τ) (slot (geometry h) i σ))
