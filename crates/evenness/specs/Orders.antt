-- What a shuffle leaves (document 02, P6: "the result is always a permutation"). Assumes nothing.
use Rattle.std.specs.Prelude.{ℕ, ◌+◌, ◌-◌, ◌<◌, ◌≡◌, List, get_or}
use Rattle.model.specs.declared.Geometry.{Geometry}
use Rattle.model.specs.Session.{Held, LentResult, geometry}
use Rattle.model.specs.Conditions.{Names, Drawing, DrawnFrom}
use Rattle.model.specs.Opening.{NotOpened, open_model}
use Rattle.model.specs.Write.{WriteResult, write_model}
use Rattle.model.specs.Release.{ReleaseResult, release_model}
use Rattle.model.specs.Shuffle.{ordering, shuffle_model}
use Rattle.evenness.specs.Runs.{AcceptedRun}

-- A shuffle of a list of so many places is served, and leaves this permutation and this position.
abbrev pub Leaves : Geometry → (list : ℕ) → (tape : List ℕ) → (position : ℕ) → (perm : List ℕ) → (after : ℕ) → Type 0
Leaves g list tape position perm after = shuffle_model g list tape position ≡ LentResult.Served perm after

-- The permutation is one that a shuffle with this geometry leaves.
pub record Made (g : Geometry) (perm : List ℕ) : Type 0 where
  pub list : ℕ
  pub tape : List ℕ
  pub position : ℕ
  pub after : ℕ
  pub leaves : Leaves g list tape position perm after

pub record ShuffledOrders : Type 0 where
  -- It names each slice once, so that no call that takes a permutation refuses it by 5.
  pub names : (g : Geometry) (perm : List ℕ) → Made g perm → Names g.p perm
  pub opens : (g : Geometry) (perm : List ℕ) → Made g perm → (device key maps owners : List ℕ)
      → (open_model device g key maps owners perm).answer ≡ NotOpened 5 → ⊥
  pub writes : (h : Held) (perm : List ℕ) → Made (geometry h) perm → (device i a : ℕ) (text tape : List ℕ) (probes : ℕ)
      → (write_model device h i a text perm tape).answer ≡ WriteResult.Refused 5 probes → ⊥
  pub releases : (h : Held) (perm : List ℕ) → Made (geometry h) perm → (device i σ : ℕ) (tape : List ℕ)
      → (release_model device h i σ perm tape).answer ≡ ReleaseResult.Refused 5 → ⊥
  -- It is the ordering of the draws that were accepted, and the tape position is after the last of their bytes. So two tapes with the
  -- same accepted draws make the same permutation, whatever was thrown away between them.
  pub accepted : (g : Geometry) (list : ℕ) (tape : List ℕ) (position : ℕ) (perm : List ℕ) (after : ℕ) → Leaves g list tape position perm after
      → (draws : List ℕ) × (n : ℕ) × DrawnFrom tape position (g.p - 1) draws n × AcceptedRun g.p draws
      × (perm ≡ ordering g.p draws) × (after ≡ position + n)
  pub thrown_away : (g : Geometry) (list list' : ℕ) (tape tape' : List ℕ) (position position' : ℕ) (perm perm' : List ℕ) (after after' : ℕ)
      → Leaves g list tape position perm after → Leaves g list' tape' position' perm' after'
      → (draws : List ℕ) (n n' : ℕ) → DrawnFrom tape position (g.p - 1) draws n → DrawnFrom tape' position' (g.p - 1) draws n' → perm ≡ perm'
  -- Every run of accepted draws is that of some bytes.
  pub arises : (p : ℕ) (draws : List ℕ) → AcceptedRun p draws → (bytes : List ℕ) × Drawing (p - 1) bytes draws × ((n : ℕ) → get_or bytes n 0 < 256)
