-- Lists of calls, each getting device, tables, tape position and session as the call before left them, and the places
-- that they write (document 01, "Two sticks compared"; document 02, P7). Assumes nothing.
use Rattle.std.specs.Prelude.{ℕ, ◌+◌, ◌/◌, ◌≤◌, ◌<◌, ◌⊎◌, List, [], ◌∷◌, ◌++◌, length}
use Rattle.model.specs.declared.Geometry.{Geometry}
use Rattle.model.specs.declared.Change.TheVariants.{Claimed, Rewritten}
use Rattle.model.specs.Parts.{patched}
use Rattle.model.specs.Geometry.{per_block, map_block_start, slice_start, slice_size, iv_start, block_start}
use Rattle.model.specs.Session.{Held, Outcome, idle, slice_of, offset_of}
use Rattle.model.specs.Read.{ReadResult, read_model, find_model}
use Rattle.model.specs.Write.{WriteResult, write_model}
use Rattle.model.specs.Release.{ReleaseResult, release_model}
use Rattle.model.specs.Close.{CloseResult, close_model}

-- A device with what is held beside it.
pub record State : Type 0 where
  pub device : List ℕ
  pub held : Held

-- A request with what it is handed: a read the length of its buffer, a write its data, the permutation and the tape, a release the
-- permutation and the tape.
pub data Call : Type 0 where
  Reading : (i a room : ℕ) → Call
  Finding : (i a : ℕ) → Call
  Writing : (i a : ℕ) → (text perm tape : List ℕ) → Call
  Releasing : (i σ : ℕ) → (perm tape : List ℕ) → Call
  Closing : Call

-- A request with its answer.
pub data Event : Type 0 where
  Reads : (i a room : ℕ) → ReadResult → Event
  Finds : (i a : ℕ) → (bytes : List ℕ) → Event
  Writes : (i a : ℕ) → (text perm tape : List ℕ) → WriteResult → Event
  Releases : (i σ : ℕ) → (perm tape : List ℕ) → ReleaseResult → Event
  Closes : CloseResult → Event

abbrev pub as_event : {A : Type 0} → (A → Event) → Outcome A → Outcome Event
as_event event o = record { answer = event o.answer; patches = o.patches; held = o.held }

-- What a call does, by the model; reads and finds change nothing.
unfoldable pub outcome : State → Call → Outcome Event
outcome st (Reading i a room) =
    idle st.held (Reads i a room (read_model st.device st.held.maps st.held.owners st.held.session i a room))
outcome st (Finding i a) =
    idle st.held (Finds i a (find_model st.device st.held.maps st.held.owners st.held.session i a))
outcome st (Writing i a text perm tape) = as_event (Writes i a text perm tape) (write_model (length st.device) st.held i a text perm tape)
outcome st (Releasing i σ perm tape) = as_event (Releases i σ perm tape) (release_model (length st.device) st.held i σ perm tape)
outcome st Closing = as_event Closes (close_model (length st.device) st.held)

-- The state that an outcome leaves of a device, and the state after a call.
abbrev pub left : {A : Type 0} → List ℕ → Outcome A → State
left device o = record { device = patched o.patches device; held = o.held }

abbrev pub next : State → Call → State
next st c = left st.device (outcome st c)

-- The state after a list of calls.
unfoldable pub final : State → List Call → State
final st [] = st
final st (c ∷ cs) = final (next st c) cs

-- The calls with their answers.
unfoldable pub events : State → List Call → List Event
events st [] = []
events st (c ∷ cs) = (outcome st c).answer ∷ events (next st c) cs

-- The tape position after each call.
unfoldable pub positions : State → List Call → List ℕ
positions st [] = []
positions st (c ∷ cs) = (next st c).held.position ∷ positions (next st c) cs

-- ---- written places, from requests and answers alone

-- The bytes from a place on.
pub record Range : Type 0 where
  pub at : ℕ
  pub size : ℕ

-- The map block that has the entry of logical slice σ of volume i.
abbrev pub map_range : Geometry → (i σ : ℕ) → Range
map_range g i σ = record { at = map_block_start g i (σ / per_block g); size = g.b }

-- A claim of slice ψ writes all its blocks, and the map block that has its entry; a rewrite in ψ at offset j the IV of data block j, and
-- that block; a served release the map block that has its entry; everything else, a close too, nothing (document 02, P7).
unfoldable pub written_by : Geometry → Event → List Range
written_by g (Writes i a text perm tape (WriteResult.Served (Claimed ψ) probes)) =
    record { at = slice_start g ψ; size = slice_size g } ∷ map_range g i (slice_of g a) ∷ []
written_by g (Writes i a text perm tape (WriteResult.Served (Rewritten ψ) probes)) =
    record { at = iv_start g ψ (offset_of g a); size = 16 } ∷ record { at = block_start g ψ (offset_of g a); size = g.b } ∷ []
written_by g (Writes i a text perm tape (WriteResult.Refused n probes)) = []
written_by g (Releases i σ perm tape (ReleaseResult.Freed ψ)) = map_range g i σ ∷ []
written_by g (Releases i σ perm tape (ReleaseResult.Refused n)) = []
written_by g (Closes r) = []
written_by g (Reads i a room r) = []
written_by g (Finds i a bytes) = []

unfoldable pub written_by_all : Geometry → List Event → List Range
written_by_all g [] = []
written_by_all g (e ∷ es) = written_by g e ++ written_by_all g es

-- Place p lies in one of the ranges.
unfoldable pub Within : ℕ → List Range → Type 0
Within p [] = ⊥
Within p (r ∷ rs) = ((r.at ≤ p) × (p < r.at + r.size)) ⊎ Within p rs
