-- The maps on a device are the maps held, and stay so where one entry is set and its map block stored. Assumes nothing.
use Prim.Native.Nat.{ℕ, ◌/◌, ◌<◌}
use mathlib.Core.Path.{◌≡◌, sym, ap, ◌∙◌}
use mathlib.Core.List.{List}
use mathlib.Core.Logic.{⊎_elim}
use native.Mathlib.Omega.{arith}
use lib.ListN.{length, set}
use Rattle.model.specs.Parts.{overlay}
use Rattle.model.specs.Geometry.{per_block, map_block_start}
use Rattle.model.specs.Session.{Held, geometry, key_of, count_of, slot, entry}
use Rattle.model.specs.Maps.{map_block_of, map_block}
use Rattle.model.specs.Conditions.{EntryFits}
use Rattle.model.proofs.Bounds.{map_block_of_lem}
use Rattle.model.proofs.Tests.{equal}
use Rattle.guarantees.specs.Rules.{table_entry}
use Rattle.guarantees.specs.Points.{map_on}
use Rattle.guarantees.proofs.SoundTables.{OpenVolume}
use Rattle.guarantees.proofs.Cases.{Stands}
use Rattle.guarantees.proofs.Entries.{set_slice, set_entry_other}
use Rattle.guarantees.proofs.MapBlocks.{block_entry, block_other}

-- Each entry of an open volume on the device, deciphered under the data key held, is the one of the table.
abbrev pub OnDevice : (device : List ℕ) → Held → Type 0
OnDevice device h = (i σ : ℕ) → OpenVolume h i → σ < (geometry h).p → map_on device (geometry h) h.session i σ ≡ table_entry h i σ

-- Logical slice σ of volume i gets the entry x, and its map block is stored under an IV.
module _ (device : List ℕ) (h : Held) (st : Stands (length device) h) (i σ x : ℕ) (iv : List ℕ) (oi : OpenVolume h i)
    (below : σ < count_of h.session i) (ivl : length iv ≡ 16) where
  abbrev maps' : List ℕ
  maps' = set h.maps (slot (geometry h) i σ) x

  abbrev device' : List ℕ
  device' =
      overlay device (map_block_start (geometry h) i (map_block_of (geometry h) σ))
      (map_block maps' (geometry h) (key_of h.session i) i (map_block_of (geometry h) σ) iv)

  pub set_on_device : OnDevice device h → ((τ : ℕ) → τ < (geometry h).p → EntryFits (geometry h) (entry maps' (geometry h) i τ))
      → (v τ : ℕ) → OpenVolume h v → τ < (geometry h).p → map_on device' (geometry h) h.session v τ ≡ entry maps' (geometry h) v τ
  set_on_device was fits v τ ov hτ =
      ⊎_elim (λ e. ⊎_elim (here e) (λ d. other (λ p q. d q)) (equal (τ / per_block (geometry h)) (map_block_of (geometry h) σ)))
      (λ d. other (λ p q. d p)) (equal v i)
    where
      low : i < 15
      low = omega (arith, oi, st.usable.top)

      here : v ≡ i → τ / per_block (geometry h) ≡ map_block_of (geometry h) σ
          → map_on device' (geometry h) h.session v τ ≡ entry maps' (geometry h) v τ
      here e same =
          rw e
          (block_entry (geometry h) st.usable.allowed device st.long maps' (key_of h.session i) iv ivl i (map_block_of (geometry h) σ) low
          (map_block_of_lem (geometry h) st.usable.allowed σ (set_slice (length device) h i σ x st oi below)) τ hτ same (fits τ hτ))

      other : (v ≡ i → τ / per_block (geometry h) ≡ map_block_of (geometry h) σ → ⊥)
          → map_on device' (geometry h) h.session v τ ≡ entry maps' (geometry h) v τ
      other ne =
          block_other (geometry h) st.usable.allowed device st.long maps' (key_of h.session i) iv ivl i (map_block_of (geometry h) σ) low
          (map_block_of_lem (geometry h) st.usable.allowed σ (set_slice (length device) h i σ x st oi below)) (key_of h.session v) v τ hτ ne
          ∙ was v τ ov hτ
          ∙ sym (set_entry_other (length device) h i σ x st oi below v τ hτ (λ p q. ne p (ap (map_block_of (geometry h)) q)))
