-- A session stands after a release, and its tables stay sound. Assumes nothing.
use Prim.Native.Nat.{ℕ, ◌+◌, ◌<◌}
use mathlib.Core.Path.{◌≡◌, refl, sym, ap₂, ◌∙◌}
use mathlib.Core.List.{List}
use mathlib.Core.Logic.{◌⊎◌, inl, ⊎_elim}
use native.Mathlib.Omega.{arith}
use native.Mathlib.Nat.{le_trans, min-le_left}
use lib.ListN.{get_or, length-set}
use lib.Seq.{get_or-set_same, get_or-set_other}
use Rattle.model.specs.Permutation.{place_of}
use Rattle.model.specs.Session.{Held, geometry, unmapped}
use Rattle.model.specs.Release.{released}
use Rattle.model.proofs.Tests.{equal}
use Rattle.guarantees.specs.Rules.{table_entry}
use Rattle.guarantees.specs.Points.{Maps}
use Rattle.guarantees.proofs.SoundTables.{SoundTables, OpenVolume}
use Rattle.guarantees.proofs.Cases.{Stands, stands_at, Releasable}
use Rattle.guarantees.proofs.Entries.{set_slice, set_entry_cases}

module _ (n : ℕ) (h : Held) (i σ : ℕ) (perm tape : List ℕ) (w : Releasable n h i σ perm tape) where
  abbrev ψ : ℕ
  ψ = table_entry h i σ

  abbrev h' : Held
  h' = (released h i σ ψ (place_of ψ perm) tape).held

  pub released_stands : {m : ℕ} → m ≡ n → Stands m h'
  released_stands long =
      stands_at h h' w.stands (le_trans (min-le_left h.session.start (place_of ψ perm)) w.stands.usable.place) refl long
      (length-set h.maps _ unmapped) (length-set h.owners ψ 0)

  -- A slice's number is not the mark.
  not_mark : (φ : ℕ) → φ < (geometry h).p → φ ≡ unmapped → ⊥
  not_mark φ l e = omega (arith, l, e, w.stands.usable.allowed.slices_most)

  abbrev Cases : ℕ → ℕ → Type 0
  Cases v τ = ((v ≡ i) × (τ ≡ σ) × (table_entry h' v τ ≡ unmapped)) ⊎ ((v ≡ i → τ ≡ σ → ⊥) × (table_entry h' v τ ≡ table_entry h v τ))

  pub released_cases : (v τ : ℕ) → τ < (geometry h).p → Cases v τ
  released_cases = set_entry_cases n h i σ unmapped w.stands w.volume w.slice

  -- The slice freed has no owner, and every other has its own.
  pub released_free : get_or h'.owners ψ 0 ≡ 0
  released_free = get_or-set_same h.owners ψ 0 0 (rw w.stands.tables.1 w.mapped)

  pub released_owner : (φ : ℕ) → (φ ≡ ψ → ⊥) → get_or h'.owners φ 0 ≡ get_or h.owners φ 0
  released_owner φ ne = get_or-set_other h.owners ψ φ 0 0 ne

  module _ (sound : SoundTables h) where
    -- No other entry named it.
    alone : (v τ : ℕ) → OpenVolume h v → τ < (geometry h).p → (v ≡ i → τ ≡ σ → ⊥) → table_entry h v τ ≡ ψ → ⊥
    alone v τ ov hτ ne e =
        let q = sound.apart.once v τ i σ ov w.volume hτ (set_slice n h i σ unmapped w.stands w.volume w.slice) (rw e w.mapped) e in
        ne q.0 q.1

    pub released_sound : SoundTables h'
    released_sound =
        record {
          whole = λ v τ ov hτ. ⊎_elim (λ c. inl c.2) (λ c. rw c.1 (sound.whole v τ ov hτ)) (released_cases v τ hτ);
          apart = record { once = once; owner = owner; free = none_free };
        }
      where
        once : (v τ u υ : ℕ) → OpenVolume h v → OpenVolume h u → τ < (geometry h).p → υ < (geometry h).p → table_entry h' v τ < (geometry h).p
            → table_entry h' v τ ≡ table_entry h' u υ → (v ≡ u) × (τ ≡ υ)
        once v τ u υ ov ou hτ hυ l e =
            ⊎_elim (λ c. absurd (not_mark _ l c.2))
            (λ c. ⊎_elim (λ d. absurd (not_mark _ l (e ∙ d.2)))
            (λ d. sound.apart.once v τ u υ ov ou hτ hυ (rw c.1 at l) (sym c.1 ∙ e ∙ d.1)) (released_cases u υ hυ))
            (released_cases v τ hτ)

        owner : (v φ : ℕ) → OpenVolume h v → φ < (geometry h).p → Maps (table_entry h') (geometry h).p v φ → get_or h'.owners φ 0 ≡ v + 1
        owner v φ ov hφ m =
            ⊎_elim (λ c. absurd (not_mark φ hφ (sym m.2 ∙ c.2)))
            (λ c. let was = sym c.1 ∙ m.2 in
            released_owner φ (λ e. alone v m.0 ov m.1 c.0 (was ∙ e)) ∙ sound.apart.owner v φ ov hφ (m.0, m.1, was))
            (released_cases v m.0 m.1)

        none_free : (φ : ℕ) → φ < (geometry h).p → ((v : ℕ) → OpenVolume h v → Maps (table_entry h') (geometry h).p v φ → ⊥)
            → get_or h'.owners φ 0 ≡ 0
        none_free φ hφ none =
            ⊎_elim (λ e. rw e released_free)
            (λ ne.
            released_owner φ ne
            ∙ sound.apart.free φ hφ (λ v ov m.
            ⊎_elim (λ c. ne (sym m.2 ∙ ap₂ (table_entry h) c.0 c.1)) (λ c. none v ov (m.0, m.1, c.1 ∙ m.2))
            (released_cases v m.0 m.1)))
            (equal φ ψ)
