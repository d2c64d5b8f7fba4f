-- What the C function hands over: the outcome of a release in the session that a struct holds; or, where the struct has another size, 13
-- before everything else, and all that was lent stays. Assumes nothing.
use Rattle.std.specs.Prelude.{ℕ, ◌≡◌, List, length}
use Rattle.model.specs.Parts.{choose, patched}
use Rattle.model.specs.Session.{Outcome}
use Rattle.model.specs.Release.{ReleaseResult}
use Rattle.records.specs.Structs.{session_sized, session_bytes, handed_back}
use Rattle.replies.specs.Answers.{release_number, freed_slice}

-- What a release hands over. A refused one leaves the session's bytes.
pub record ReleaseHanded (session₀ : List ℕ) (o : Outcome ReleaseResult) (device₀ maps₀ owners₀ : List ℕ) (position₀ slice₀ number : ℕ)
    (device maps owners : List ℕ) (position : ℕ) (session : List ℕ) (slice : ℕ) : Type 0 where
  pub number_is : number ≡ choose (session_sized session₀) (release_number o.answer) 13
  pub freed : slice ≡ choose (session_sized session₀) (freed_slice o.answer slice₀) slice₀
  pub stored : device ≡ choose (session_sized session₀) (patched o.patches device₀) device₀
  pub mapped : maps ≡ choose (session_sized session₀) o.held.maps maps₀
  pub owned : owners ≡ choose (session_sized session₀) o.held.owners owners₀
  pub moved : position ≡ choose (session_sized session₀) o.held.position position₀
  pub handed : session ≡ handed_back number (session_bytes o.held.session) session₀

-- ---- what the contract fixes

-- What is left by a release whose struct has another size, and by one whose struct has its own.
pub record ReleaseFixed (session₀ : List ℕ) (o : Outcome ReleaseResult) (device₀ maps₀ owners₀ : List ℕ) (position₀ slice₀ number : ℕ)
    (device maps owners : List ℕ) (position : ℕ) (session : List ℕ) (slice : ℕ) : Type 0 where
  pub other : (length session₀ ≡ 648 → ⊥)
      → (number ≡ 13)
      × (slice ≡ slice₀)
      × (device ≡ device₀)
      × (maps ≡ maps₀)
      × (owners ≡ owners₀)
      × (position ≡ position₀)
      × (session ≡ session₀)
  pub sized : length session₀ ≡ 648
      → (number ≡ release_number o.answer)
      × (slice ≡ freed_slice o.answer slice₀)
      × (device ≡ patched o.patches device₀)
      × (maps ≡ o.held.maps)
      × (owners ≡ o.held.owners)
      × (position ≡ o.held.position)
      × (session ≡ handed_back (release_number o.answer) (session_bytes o.held.session) session₀)

-- The contract fixes all that is lent to be written, whatever the size of the struct.
pub record HandedLaws : Type 0 where
  pub release_fixed : {session₀ : List ℕ} {o : Outcome ReleaseResult} {device₀ maps₀ owners₀ : List ℕ} {position₀ slice₀ number : ℕ}
      {device maps owners : List ℕ} {position : ℕ} {session : List ℕ} {slice : ℕ}
      → ReleaseHanded session₀ o device₀ maps₀ owners₀ position₀ slice₀ number device maps owners position session slice
      → ReleaseFixed session₀ o device₀ maps₀ owners₀ position₀ slice₀ number device maps owners position session slice
