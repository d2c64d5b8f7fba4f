-- The state of a walk, and the engine's write on it (document 01, "The walk program": on empty maps, with all 15 volumes
-- open, without ciphers, on a tape that never ends). Assumes nothing.
use Rattle.std.specs.Prelude.{ℕ, ◌*◌, List, [], Bool, true, false, replicate}
use Rattle.model.specs.declared.Geometry.{Geometry}
use Rattle.model.specs.declared.Session.{Session}
use Rattle.model.specs.Geometry.{device_length}
use Rattle.model.specs.Session.{Held, Outcome, held, geometry, unmapped, no_keys}
use Rattle.model.specs.Write.{WriteResult, write_model}

-- Whether a frame 01 and a frame 02 were accepted, how many frames 03 of the right length came, the permutation, and what
-- the engine holds: tables, tape position and session.
pub record State : Type 0 where
  pub sized : Bool
  pub shuffled : Bool
  pub counted : ℕ
  pub perm : List ℕ
  pub held : Held

-- A session with all 15 volumes open, each with N = P (document 02, P4), and its start place; no cipher runs, so that its data keys do
-- not matter.
abbrev pub all_open : Geometry → (start : ℕ) → Session
all_open g start = record { geometry = g; k = 14; keys = no_keys; opened = true; start = start; counts = replicate 15 g.p }

-- Empty maps, no owners, the tape and the permutation at their start.
abbrev pub empty : Geometry → Held
empty g = held (replicate (15 * g.p) unmapped) (replicate g.p 0) 0 (all_open g 0)

-- Before the first line.
abbrev pub start : State
start = record { sized = false; shuffled = false; counted = 0; perm = []; held = held [] [] 0 (all_open (record { b = 0; s = 0; p = 0 }) 0) }

-- A tape of so many zeros.
unfoldable pub zeros : ℕ → List ℕ
zeros n = replicate n 0

-- The endless tape: 4,096 frames 03, of which none takes more than 4,112 bytes, cannot use it up (`WalkLaws.listed`).
abbrev pub endless : List ℕ
endless = zeros (4096 * 4112)

-- The engine's write of zeros to block address a of volume i, on a device of the right length; no write looks at its bytes.
abbrev pub engine_write : State → (i a : ℕ) → Outcome WriteResult
engine_write w i a = write_model (device_length (geometry w.held)) w.held i a (zeros (geometry w.held).b) w.perm endless
