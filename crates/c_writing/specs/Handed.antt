-- What the C function hands over: the outcome of a write in the session that a struct holds; or, where a struct has another size, 13
-- before everything else, and all that was lent stays but for the answer's struct. Assumes nothing.
use Rattle.std.specs.Prelude.{ℕ, ◌≡◌, Bool, ◌&&◌, List, length}
use Rattle.model.specs.Parts.{choose, patched}
use Rattle.model.specs.Session.{Outcome}
use Rattle.model.specs.Write.{WriteResult}
use Rattle.records.specs.Structs.{session_sized, session_bytes, handed_back}
use Rattle.replies.specs.Written.{written_sized, written_bytes}
use Rattle.replies.specs.Answers.{write_number}

-- Whether the structs of a write have their sizes.
abbrev pub write_sized : (session written : List ℕ) → Bool
write_sized session written = written_sized written && session_sized session

-- The answer of a write: 13 looked at no place.
abbrev pub answer_of : (sized : Bool) → Outcome WriteResult → WriteResult
answer_of sized o = choose sized o.answer (WriteResult.Refused 13 0)

-- What a write hands over. A refused one tells what it looked at; of its session only a 22 hands something back (document 02, P2).
pub record WriteHanded (session₀ written₀ : List ℕ) (o : Outcome WriteResult) (device₀ maps₀ owners₀ : List ℕ) (position₀ : ℕ) (number : ℕ)
    (device maps owners : List ℕ) (position : ℕ) (session written : List ℕ) : Type 0 where
  pub number_is : number ≡ write_number (answer_of (write_sized session₀ written₀) o)
  pub told : written ≡ choose (written_sized written₀) (written_bytes (answer_of (write_sized session₀ written₀) o)) written₀
  pub stored : device ≡ choose (write_sized session₀ written₀) (patched o.patches device₀) device₀
  pub mapped : maps ≡ choose (write_sized session₀ written₀) o.held.maps maps₀
  pub owned : owners ≡ choose (write_sized session₀ written₀) o.held.owners owners₀
  pub moved : position ≡ choose (write_sized session₀ written₀) o.held.position position₀
  pub handed : session ≡ handed_back number (session_bytes o.held.session) session₀

-- ---- what the contract fixes

-- What is left by a write whose structs have another size, and by one whose structs have theirs; and what it tells where one struct or
-- the other has another size.
pub record WriteFixed (session₀ written₀ : List ℕ) (o : Outcome WriteResult) (device₀ maps₀ owners₀ : List ℕ) (position₀ : ℕ) (number : ℕ)
    (device maps owners : List ℕ) (position : ℕ) (session written : List ℕ) : Type 0 where
  pub other : (length written₀ ≡ 24 → length session₀ ≡ 648 → ⊥)
      → (number ≡ 13) × (device ≡ device₀) × (maps ≡ maps₀) × (owners ≡ owners₀) × (position ≡ position₀) × (session ≡ session₀)
  pub untold : (length written₀ ≡ 24 → ⊥) → written ≡ written₀
  pub told : length written₀ ≡ 24 → (length session₀ ≡ 648 → ⊥) → written ≡ written_bytes (WriteResult.Refused 13 0)
  pub sized : length written₀ ≡ 24 → length session₀ ≡ 648
      → (number ≡ write_number o.answer)
      × (written ≡ written_bytes o.answer)
      × (device ≡ patched o.patches device₀)
      × (maps ≡ o.held.maps)
      × (owners ≡ o.held.owners)
      × (position ≡ o.held.position)
      × (session ≡ handed_back (write_number o.answer) (session_bytes o.held.session) session₀)

-- The contract fixes all that is lent to be written, whatever the sizes of the structs.
pub record HandedLaws : Type 0 where
  pub write_fixed : {session₀ written₀ : List ℕ} {o : Outcome WriteResult} {device₀ maps₀ owners₀ : List ℕ} {position₀ number : ℕ}
      {device maps owners : List ℕ} {position : ℕ} {session written : List ℕ}
      → WriteHanded session₀ written₀ o device₀ maps₀ owners₀ position₀ number device maps owners position session written
      → WriteFixed session₀ written₀ o device₀ maps₀ owners₀ position₀ number device maps owners position session written
