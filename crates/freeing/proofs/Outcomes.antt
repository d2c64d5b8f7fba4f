-- What a release leaves that is carried out, by the steps of its code. Assumes nothing.
use Prim.Native.Nat.{ℕ, min}
use mathlib.Core.Path.{◌≡◌, refl, sym}
use mathlib.Core.List.{List}
use lib.ListN.{length, set}
use lib.Seq.{take-length}
use Rattle.std.specs.Prelude.{Result, Ok}
use Rattle.refusals.specs.declared.Refusal.{Refusal}
use Rattle.model.specs.declared.Geometry.{Geometry}
use Rattle.model.specs.declared.Session.{Session}
use Rattle.model.specs.Parts.{part, overlay, patched}
use Rattle.model.specs.Geometry.{map_block_start}
use Rattle.model.specs.Permutation.{place_of}
use Rattle.model.specs.Session.{held, unmapped, starting_at, key_of, slot, entry}
use Rattle.model.specs.Maps.{map_block_of, map_block}
use Rattle.model.specs.Release.{ReleaseResult, Freed}
use Rattle.model.specs.Answers.{Leaves}
use Rattle.model.proofs.Requests.{Releasable, release_refusal_none}
use Rattle.freeing.specs.Carried.{needed, carried, Fits, Ready}

-- What is carried out where nothing refuses.
module _ {device : ℕ} {maps owners : List ℕ} {s : Session} {i σ : ℕ} {perm : List ℕ} {drawn : ℕ} where
  pub fits : {a : Result Unit Refusal} {u : Unit} → Ready a device maps owners s i σ perm drawn → a ≡ Ok u
      → Fits device maps owners s i σ perm drawn
  fits ready e = rw e at ready

  pub releasable : (f : Fits device maps owners s i σ perm drawn) → Releasable device (held maps owners f.position s) i σ perm f.tape
  releasable f = release_refusal_none _ _ _ _ _ _ f.none

module _ (device maps owners perm drawn : List ℕ) (s : Session) (i σ : ℕ) where
  abbrev g : Geometry
  g = s.geometry

  pub release_freed : (a : Result Unit Refusal) {u : Unit} → a ≡ Ok u → length drawn ≡ 16 → (ψ : ℕ) → ψ ≡ entry maps g i σ → (place : ℕ) → place ≡ place_of ψ perm
      → (first : ℕ) → first ≡ min s.start place → {device' maps' owners' key : List ℕ} {s' : Session}
      → maps' ≡ set maps (slot g i σ) unmapped → owners' ≡ set owners ψ 0 → key ≡ key_of s i
      → device' ≡ overlay device (map_block_start g i (map_block_of g σ)) (map_block maps' g key i (map_block_of g σ) drawn) → s' ≡ starting_at first s
      → Leaves ReleaseResult (carried a (held maps owners 0 s) i σ perm drawn) device (Freed ψ) device' maps' owners' (needed a) s'
  unfolding patched
  release_freed a served all ψ e place at first f m o k d h =
      let iv : part 0 16 drawn ≡ drawn = rw (sym all) (take-length drawn) in
      rw (served, ← e, ← at, ← f, iv)
      (record { answered = refl; stored = rw (m, k) at d; mapped = m; owned = o; moved = refl; handed = h })
