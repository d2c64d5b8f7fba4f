-- What a served opening leaves and every call keeps: each entry the mark or a slice below the volume's N, and no slice held twice.
-- Assumes nothing.
use Prim.Native.Nat.{ℕ, ◌≤◌, ◌<◌}
use mathlib.Core.Path.{◌≡◌}
use mathlib.Core.Logic.{◌⊎◌, inl, inr, ⊎_elim}
use Rattle.model.specs.Session.{Held, geometry, count_of, unmapped}
use Rattle.model.specs.Conditions.{EntryFits}
use Rattle.guarantees.specs.Rules.{table_entry}
use Rattle.guarantees.specs.Points.{HeldOnce}

-- Volume i is one of those opened.
abbrev pub OpenVolume : Held → (i : ℕ) → Type 0
OpenVolume h i = i ≤ h.session.k

pub record SoundTables (h : Held) : Type 0 where
  pub whole : (i σ : ℕ) → OpenVolume h i → σ < (geometry h).p
      → (table_entry h i σ ≡ unmapped) ⊎ ((table_entry h i σ < (geometry h).p) × (σ < count_of h.session i))
  pub apart : HeldOnce h

pub sound_fits : {h : Held} → SoundTables h → (i σ : ℕ) → OpenVolume h i → σ < (geometry h).p → EntryFits (geometry h) (table_entry h i σ)
sound_fits sound i σ oi hσ = ⊎_elim inl (λ x. inr x.0) (sound.whole i σ oi hσ)
