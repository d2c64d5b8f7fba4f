-- What the C function hands over: the outcome of an opening with the geometry that a struct holds; or, where a struct has another size,
-- 13 before everything else, and all that was lent stays. Assumes nothing.
use Rattle.std.specs.Prelude.{ℕ, ◌≡◌, Bool, ◌&&◌, List, length}
use Rattle.model.specs.Parts.{choose}
use Rattle.model.specs.Opening.{OpenOutcome}
use Rattle.records.specs.Structs.{geometry_sized, session_sized, session_bytes}
use Rattle.replies.specs.Answers.{open_number}

-- Whether the structs of an opening have their sizes.
abbrev pub open_sized : (geometry session : List ℕ) → Bool
open_sized geometry session = geometry_sized geometry && session_sized session

-- What an opening hands over. A refused one sets the session too.
pub record OpenHanded (geometry session₀ : List ℕ) (o : OpenOutcome) (maps₀ owners₀ : List ℕ) (number : ℕ) (maps owners session : List ℕ) : Type 0
  where
    pub number_is : number ≡ choose (open_sized geometry session₀) (open_number o.answer) 13
    pub mapped : maps ≡ choose (open_sized geometry session₀) o.maps maps₀
    pub owned : owners ≡ choose (open_sized geometry session₀) o.owners owners₀
    pub handed : session ≡ choose (open_sized geometry session₀) (session_bytes o.session) session₀

-- ---- what the contract fixes

-- What is left by an opening whose structs have another size, and by one whose structs have theirs.
pub record OpenFixed (geometry session₀ : List ℕ) (o : OpenOutcome) (maps₀ owners₀ : List ℕ) (number : ℕ) (maps owners session : List ℕ) : Type 0
  where
    pub other : (length geometry ≡ 24 → length session₀ ≡ 648 → ⊥)
        → (number ≡ 13) × (maps ≡ maps₀) × (owners ≡ owners₀) × (session ≡ session₀)
    pub sized : length geometry ≡ 24 → length session₀ ≡ 648
        → (number ≡ open_number o.answer) × (maps ≡ o.maps) × (owners ≡ o.owners) × (session ≡ session_bytes o.session)

-- The contract fixes all that is lent to be written, whatever the sizes of the structs.
pub record HandedLaws : Type 0 where
  pub open_fixed : {geometry session₀ : List ℕ} {o : OpenOutcome} {maps₀ owners₀ : List ℕ} {number : ℕ} {maps owners session : List ℕ}
      → OpenHanded geometry session₀ o maps₀ owners₀ number maps owners session
      → OpenFixed geometry session₀ o maps₀ owners₀ number maps owners session
