-- What the engine's answers say by the document's numbers, and what its calls have to leave. Assumes nothing.
use Rattle.std.specs.Prelude.{ℕ, ◌≡◌, List, Result, Ok, Err}
use Rattle.refusals.specs.Numbers.{refusal_number}
use Rattle.refusals.specs.declared.Refusal.{Refusal}
use Rattle.model.specs.declared.Session.{Session}
use Rattle.model.specs.declared.Change.{Change}
use Rattle.model.specs.declared.Change.TheVariants.{Claimed, Rewritten}
use Rattle.model.specs.declared.WriteAnswer.{WriteAnswer}
use Rattle.model.specs.declared.WriteAnswer.TheVariants as write-answer
use Rattle.model.specs.Parts.{patched}
use Rattle.model.specs.Session.{Outcome, LentResult}
use Rattle.model.specs.Opening.{OpenResult, OpenTo, NotOpened, OpenOutcome}
use Rattle.model.specs.Read.{ReadResult, Filled, Refused}
use Rattle.model.specs.Write.{WriteResult}
use Rattle.model.specs.Release.{ReleaseResult}
use Rattle.model.specs.Close.{CloseResult, Closed}

-- Opening: k, or the refusal's number.
abbrev pub open_result : Result ℕ Refusal → OpenResult
open_result (Ok k) = OpenTo k
open_result (Err r) = NotOpened (refusal_number r)

-- The slice that a served write claimed or rewrote.
abbrev pub change_slice : Change → ℕ
change_slice (Claimed ψ) = ψ
change_slice (Rewritten ψ) = ψ

-- Write: claimed or rewritten with slice and count, or the refusal's number with its count.
abbrev pub write_result : WriteAnswer → WriteResult
write_result (write-answer.Served change probes) = WriteResult.Served change probes
write_result (write-answer.Refused r probes) = WriteResult.Refused (refusal_number r) probes

-- Release: the slice freed, or the refusal's number.
abbrev pub release_result : Result ℕ Refusal → ReleaseResult
release_result (Ok ψ) = ReleaseResult.Freed ψ
release_result (Err r) = ReleaseResult.Refused (refusal_number r)

-- Close: served, or the refusal's number.
abbrev pub close_result : Result Unit Refusal → CloseResult
close_result (Ok u) = Closed
close_result (Err r) = CloseResult.Refused (refusal_number r)

-- Read: the refusal's number, 0 where the buffer was filled.
abbrev pub read_number : ReadResult → ℕ
read_number (Filled bytes) = 0
read_number (Refused n) = n

-- The buffer after a read: its bytes, or what it held.
abbrev pub read_buffer : ReadResult → List ℕ → List ℕ
read_buffer (Filled bytes) old = bytes
read_buffer (Refused n) old = old

-- Formatting and shuffle: the refusal's number, 0 where the lent list was made.
abbrev pub lent_number : LentResult → ℕ
lent_number (LentResult.Served list position) = 0
lent_number (LentResult.Refused n) = n

-- The lent list and the tape position after it; a refused one leaves both.
abbrev pub lent_list : LentResult → List ℕ → List ℕ
lent_list (LentResult.Served list position) old = list
lent_list (LentResult.Refused n) old = old

abbrev pub lent_position : LentResult → ℕ → ℕ
lent_position (LentResult.Served list position) old = position
lent_position (LentResult.Refused n) old = old

-- What an opening has to leave: answer, tables and session.
pub record OpenLeaves (o : OpenOutcome) (answer : OpenResult) (maps owners : List ℕ) (session : Session) : Type 0 where
  pub answered : answer ≡ o.answer
  pub mapped : maps ≡ o.maps
  pub owned : owners ≡ o.owners
  pub handed : session ≡ o.session

-- What a write, a release or a close has to leave: its answer, the device with the patches stored, tables, tape position and session.
pub record Leaves (A : Type 0) (o : Outcome A) (before : List ℕ) (answer : A) (device maps owners : List ℕ) (position : ℕ) (session : Session)
    : Type 0 where
  pub answered : answer ≡ o.answer
  pub stored : device ≡ patched o.patches before
  pub mapped : maps ≡ o.held.maps
  pub owned : owners ≡ o.held.owners
  pub moved : position ≡ o.held.position
  pub handed : session ≡ o.held.session

-- What a formatting or a shuffle has to leave: the number of its answer, the lent list and the tape position.
pub record LentLeaves (r : LentResult) (list₀ : List ℕ) (position₀ number : ℕ) (list : List ℕ) (position : ℕ) : Type 0 where
  pub answered : number ≡ lent_number r
  pub stored : list ≡ lent_list r list₀
  pub moved : position ≡ lent_position r position₀
