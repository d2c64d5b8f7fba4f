-- What a release comes to by its answer (document 02, P5 and P7). Assumes nothing.
use Rattle.std.specs.Prelude.{ℕ, ◌≡◌, List, Result, Ok, Err}
use Rattle.refusals.specs.declared.Refusal.{Refusal}
use Rattle.refusals.specs.Numbers.{refusal_number}
use Rattle.model.specs.declared.Session.{Session}
use Rattle.model.specs.Permutation.{place_of}
use Rattle.model.specs.Session.{Held, Outcome, held, geometry, entry, idle}
use Rattle.model.specs.Release.{ReleaseResult, release_refusal, released}

-- The tape bytes that it draws: none where it is refused.
abbrev pub needed : Result Unit Refusal → ℕ
needed (Ok u) = 16
needed (Err r) = 0

-- What carrying it out comes to, its bytes drawn from a tape.
abbrev pub carried : Result Unit Refusal → Held → (i σ : ℕ) → (perm tape : List ℕ) → Outcome ReleaseResult
carried (Ok u) h i σ perm tape =
    released h i σ (entry h.maps (geometry h) i σ) (place_of (entry h.maps (geometry h) i σ) perm) tape
carried (Err r) h i σ perm tape = idle h (ReleaseResult.Refused (refusal_number r))

-- A release that can be carried out: no refusal applies, for some tape, and the bytes are drawn.
pub record Fits (device : ℕ) (maps owners : List ℕ) (s : Session) (i σ : ℕ) (perm : List ℕ) (drawn : ℕ) : Type 0 where
  pub position : ℕ
  pub tape : ℕ
  pub none : release_refusal device (held maps owners position s) i σ perm tape ≡ 0
  pub drawn_all : drawn ≡ 16

-- What carrying it out needs.
abbrev pub Ready : Result Unit Refusal → (device : ℕ) → (maps owners : List ℕ) → Session → (i σ : ℕ) → (perm : List ℕ) → (drawn : ℕ) → Type 0
Ready (Ok u) device maps owners s i σ perm drawn = Fits device maps owners s i σ perm drawn
Ready (Err r) device maps owners s i σ perm drawn = Unit {0}
