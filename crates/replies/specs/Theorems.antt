-- What is proved of the struct of a write's answer, of the answer of a release, and of what a formatting and a shuffle hand over. Assumes
-- nothing.
use Rattle.std.specs.Prelude.{ℕ, ◌^◌, ◌<◌, ◌≡◌, List, length}
use Rattle.model.specs.declared.Change.TheVariants.{Claimed, Rewritten}
use Rattle.model.specs.Session.{LentResult}
use Rattle.model.specs.Answers.{LentLeaves}
use Rattle.model.specs.Write.{WriteResult}
use Rattle.model.specs.Release.{ReleaseResult}
use Rattle.records.specs.Theorems.{Fields}
use Rattle.replies.specs.Answers.{release_number, freed_slice}
use Rattle.replies.specs.Written.{written_bytes}
use Rattle.replies.specs.Lent.{LentHanded}

-- What a C program finds in the fields of the answer: a slice that was claimed, one that was rewritten, or none. A release that freed a
-- slice returns 0 and sets it; a refused one returns its number and leaves what stood there. What a formatting and a shuffle hand over fixes
-- number, list and position, whatever the size of the geometry's struct.
pub record ReplyLaws : Type 0 where
  pub written_claimed : (ψ probes : ℕ) → ψ < 2 ^ 64 → probes < 2 ^ 64 → Fields 1 ψ probes (written_bytes (WriteResult.Served (Claimed ψ) probes))
  pub written_rewritten : (ψ probes : ℕ) → ψ < 2 ^ 64 → probes < 2 ^ 64
      → Fields 0 ψ probes (written_bytes (WriteResult.Served (Rewritten ψ) probes))
  pub written_refused : (number probes : ℕ) → probes < 2 ^ 64 → Fields 0 0 probes (written_bytes (WriteResult.Refused number probes))
  pub release_freed : (ψ old : ℕ) → (release_number (ReleaseResult.Freed ψ) ≡ 0) × (freed_slice (ReleaseResult.Freed ψ) old ≡ ψ)
  pub release_refused : (number old : ℕ)
      → (release_number (ReleaseResult.Refused number) ≡ number) × (freed_slice (ReleaseResult.Refused number) old ≡ old)
  pub lent_other_size : (geometry : List ℕ) (r : LentResult) (list₀ : List ℕ) (position₀ number : ℕ) (list : List ℕ) (position : ℕ)
      → LentHanded geometry r list₀ position₀ number list position → (length geometry ≡ 24 → ⊥)
      → (number ≡ 13) × (list ≡ list₀) × (position ≡ position₀)
  pub lent_right_size : (geometry : List ℕ) (r : LentResult) (list₀ : List ℕ) (position₀ number : ℕ) (list : List ℕ) (position : ℕ)
      → LentHanded geometry r list₀ position₀ number list position → length geometry ≡ 24 → LentLeaves r list₀ position₀ number list position
