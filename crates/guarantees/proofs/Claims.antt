-- A session stands after a claim, and its tables stay sound. Assumes nothing.
use Prim.Native.Nat.{ℕ, ◌+◌, ◌<◌}
use mathlib.Core.Path.{◌≡◌, refl, sym, ap₂, ◌∙◌}
use mathlib.Core.List.{List}
use mathlib.Core.Logic.{◌⊎◌, inr, ⊎_elim}
use native.Mathlib.Omega.{arith}
use lib.ListN.{get_or, length-set}
use lib.Seq.{get_or-set_same, get_or-set_other}
use Rattle.model.specs.Session.{Held, geometry, count_of, unmapped}
use Rattle.model.specs.Write.{claimed}
use Rattle.guarantees.specs.Rules.{table_entry}
use Rattle.guarantees.specs.Points.{Maps}
use Rattle.guarantees.proofs.SoundTables.{SoundTables, OpenVolume}
use Rattle.guarantees.proofs.Cases.{Stands, stands_at}
use Rattle.guarantees.proofs.Entries.{set_slice, set_entry, set_entry_cases}

pub claimed_stands : (h : Held) {n m : ℕ} → Stands n h → (i σ j ψ place : ℕ) (text tape : List ℕ) → place < (geometry h).p → m ≡ n
    → Stands m (claimed h i σ j ψ place text tape).held
claimed_stands h st i σ j ψ place text tape l long =
    stands_at h (claimed h i σ j ψ place text tape).held st (omega (arith, l)) refl long (length-set h.maps _ ψ) (length-set h.owners ψ (i + 1))

-- No open volume has a slice that is free.
pub free_new : {h : Held} → SoundTables h → (ψ : ℕ) → ψ < (geometry h).p → get_or h.owners ψ 0 ≡ 0
    → (v τ : ℕ) → OpenVolume h v → τ < (geometry h).p → table_entry h v τ ≡ ψ → ⊥
free_new sound ψ hψ free v τ ov hτ e = omega (arith, sound.apart.owner v ψ ov hψ (τ, hτ, e), free)

module _ (n : ℕ) (h : Held) (i σ j ψ place : ℕ) (text tape : List ℕ) (st : Stands n h) (oi : OpenVolume h i)
    (below : σ < count_of h.session i) (sound : SoundTables h) (hψ : ψ < (geometry h).p) (free : get_or h.owners ψ 0 ≡ 0) where
  abbrev h' : Held
  h' = (claimed h i σ j ψ place text tape).held

  abbrev Cases : ℕ → ℕ → Type 0
  Cases v τ = ((v ≡ i) × (τ ≡ σ) × (table_entry h' v τ ≡ ψ)) ⊎ ((v ≡ i → τ ≡ σ → ⊥) × (table_entry h' v τ ≡ table_entry h v τ))

  cases : (v τ : ℕ) → τ < (geometry h).p → Cases v τ
  cases = set_entry_cases n h i σ ψ st oi below

  new : (v τ : ℕ) → OpenVolume h v → τ < (geometry h).p → table_entry h v τ ≡ ψ → ⊥
  new = free_new sound ψ hψ free

  -- The owner of another slice stays.
  owner_other : (φ : ℕ) → (φ ≡ ψ → ⊥) → get_or h'.owners φ 0 ≡ get_or h.owners φ 0
  owner_other φ ne = get_or-set_other h.owners ψ φ (i + 1) 0 ne

  pub claimed_sound : table_entry h i σ ≡ unmapped → SoundTables h'
  claimed_sound un =
      record {
        whole = λ v τ ov hτ.
            ⊎_elim (λ c. inr (rw c.2 hψ, rw (c.0, c.1) below)) (λ c. rw c.1 (sound.whole v τ ov hτ)) (cases v τ hτ);
        apart = record { once = once; owner = owner; free = none_free };
      }
    where
      once : (v τ w υ : ℕ) → OpenVolume h v → OpenVolume h w → τ < (geometry h).p → υ < (geometry h).p → table_entry h' v τ < (geometry h).p
          → table_entry h' v τ ≡ table_entry h' w υ → (v ≡ w) × (τ ≡ υ)
      once v τ w υ ov ow hτ hυ l e =
          ⊎_elim
          (λ c. ⊎_elim (λ d. (c.0 ∙ sym d.0, c.1 ∙ sym d.1)) (λ d. absurd (new w υ ow hυ (sym d.1 ∙ sym e ∙ c.2))) (cases w υ hυ))
          (λ c. ⊎_elim (λ d. absurd (new v τ ov hτ (sym c.1 ∙ e ∙ d.2)))
          (λ d. sound.apart.once v τ w υ ov ow hτ hυ (rw c.1 at l) (sym c.1 ∙ e ∙ d.1)) (cases w υ hυ))
          (cases v τ hτ)

      owner : (v φ : ℕ) → OpenVolume h v → φ < (geometry h).p → Maps (table_entry h') (geometry h).p v φ → get_or h'.owners φ 0 ≡ v + 1
      owner v φ ov hφ m =
          ⊎_elim
          (λ c. rw (sym m.2 ∙ c.2, c.0) (get_or-set_same h.owners ψ (i + 1) 0 (rw st.tables.1 hψ)))
          (λ c. let was = sym c.1 ∙ m.2 in
          owner_other φ (λ e. new v m.0 ov m.1 (was ∙ e)) ∙ sound.apart.owner v φ ov hφ (m.0, m.1, was))
          (cases v m.0 m.1)

      none_free : (φ : ℕ) → φ < (geometry h).p → ((v : ℕ) → OpenVolume h v → Maps (table_entry h') (geometry h).p v φ → ⊥)
          → get_or h'.owners φ 0 ≡ 0
      none_free φ hφ none =
          owner_other φ (λ e. none i oi (σ, set_slice n h i σ ψ st oi below, set_entry n h i σ ψ st oi below ∙ sym e))
          ∙ sound.apart.free φ hφ (λ v ov m.
          ⊎_elim
          (λ c. let was : φ ≡ unmapped = sym m.2 ∙ ap₂ (table_entry h) c.0 c.1 ∙ un in
          omega (arith, st.usable.allowed.slices_most))
          (λ c. none v ov (m.0, m.1, c.1 ∙ m.2)) (cases v m.0 m.1))
