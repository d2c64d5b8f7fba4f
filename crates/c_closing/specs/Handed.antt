-- What the C function hands over: the outcome of a close in the session that a struct holds; or, where the struct has another size, 13
-- before everything else, and all that was lent stays. Assumes nothing.
use Rattle.std.specs.Prelude.{ℕ, ◌≡◌, List, length}
use Rattle.model.specs.Parts.{choose, patched}
use Rattle.model.specs.Session.{Outcome}
use Rattle.model.specs.Close.{CloseResult}
use Rattle.records.specs.Structs.{session_sized, session_bytes, handed_back}
use Rattle.replies.specs.Answers.{close_number}

-- What a close hands over. It is lent the device to be read alone and no tape position: the outcome leaves both. A refused one leaves
-- the session's bytes.
pub record CloseHanded (session₀ : List ℕ) (o : Outcome CloseResult) (device maps₀ owners₀ : List ℕ) (position number : ℕ)
    (maps owners session : List ℕ) : Type 0 where
  pub number_is : number ≡ choose (session_sized session₀) (close_number o.answer) 13
  pub stored : device ≡ choose (session_sized session₀) (patched o.patches device) device
  pub mapped : maps ≡ choose (session_sized session₀) o.held.maps maps₀
  pub owned : owners ≡ choose (session_sized session₀) o.held.owners owners₀
  pub moved : position ≡ choose (session_sized session₀) o.held.position position
  pub handed : session ≡ handed_back number (session_bytes o.held.session) session₀

-- ---- what the contract fixes

-- What is left by a close whose struct has another size, and by one whose struct has its own.
pub record CloseFixed (session₀ : List ℕ) (o : Outcome CloseResult) (device maps₀ owners₀ : List ℕ) (position number : ℕ)
    (maps owners session : List ℕ) : Type 0 where
  pub other : (length session₀ ≡ 648 → ⊥) → (number ≡ 13) × (maps ≡ maps₀) × (owners ≡ owners₀) × (session ≡ session₀)
  pub sized : length session₀ ≡ 648
      → (number ≡ close_number o.answer)
      × (device ≡ patched o.patches device)
      × (maps ≡ o.held.maps)
      × (owners ≡ o.held.owners)
      × (position ≡ o.held.position)
      × (session ≡ handed_back (close_number o.answer) (session_bytes o.held.session) session₀)

-- The contract fixes all that is lent to be written, whatever the size of the struct.
pub record HandedLaws : Type 0 where
  pub close_fixed : {session₀ : List ℕ} {o : Outcome CloseResult} {device maps₀ owners₀ : List ℕ} {position number : ℕ}
      {maps owners session : List ℕ}
      → CloseHanded session₀ o device maps₀ owners₀ position number maps owners session
      → CloseFixed session₀ o device maps₀ owners₀ position number maps owners session
