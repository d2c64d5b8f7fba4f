-- The session, the lent tables and the tape position, and the refusals that every request shares (document 01,
-- "Opening, requests, closing" and "Refused for .."; document 02, P2 and P4). Assumes nothing.
use Rattle.std.specs.Prelude.{ℕ, zero, suc, ◌+◌, ◌-◌, ◌*◌, ◌/◌, ◌%◌, List, [], Bool, not, ◌||◌, ◌&&◌, get_or, replicate, ltb, leb, eqb}
use Rattle.refusals.specs.Numbers.{refuse}
use Rattle.model.specs.declared.Geometry.{Geometry}
use Rattle.model.specs.declared.Session.{Session}
use Rattle.model.specs.Parts.{part, Patch}
use Rattle.model.specs.Geometry.{bad_geometry, count_in, any_bad_count, device_length}

-- The mark FFFFFFFF of an unmapped logical slice.
abbrev pub unmapped : ℕ
unmapped = 4294967295

-- What is held beside the device: the map table, the owner table, the tape position and the session.
pub record Held : Type 0 where
  pub maps : List ℕ
  pub owners : List ℕ
  pub position : ℕ
  pub session : Session

-- What a call was lent and handed, as one record.
abbrev pub held : (maps owners : List ℕ) → (position : ℕ) → Session → Held
held maps owners position s = record { maps = maps; owners = owners; position = position; session = s }

abbrev pub geometry : Held → Geometry
geometry h = h.session.geometry

-- The data key of volume i, among keys end to end and in a session.
abbrev pub key_in : (keys : List ℕ) → (i : ℕ) → List ℕ
key_in keys i = part (32 * i) 32 keys

abbrev pub key_of : Session → ℕ → List ℕ
key_of s i = key_in s.keys i

-- A session with another start place (document 02, P2).
abbrev pub starting_at : (start : ℕ) → Session → Session
starting_at start s =
    record { geometry = s.geometry; k = s.k; keys = s.keys; opened = s.opened; start = start; counts = s.counts }

-- N, the logical slices of volume i (document 02, P4).
abbrev pub count_of : Session → ℕ → ℕ
count_of s i = count_in s.counts i

-- The blocks of volume i: N × S (document 02, P4).
abbrev pub block_count : Session → ℕ → ℕ
block_count s i = count_of s i * s.geometry.s

-- Where the map table has the entry of logical slice σ of volume i.
abbrev pub slot : Geometry → ℕ → ℕ → ℕ
slot g i σ = i * g.p + σ

-- The entry of logical slice σ of volume i.
abbrev pub entry : List ℕ → Geometry → ℕ → ℕ → ℕ
entry maps g i σ = get_or maps (slot g i σ) 0

-- The logical slice of block address a, and the block's offset in it.
abbrev pub slice_of : Geometry → ℕ → ℕ
slice_of g a = a / g.s

abbrev pub offset_of : Geometry → ℕ → ℕ
offset_of g a = a % g.s

-- The entry of the logical slice of block address a of volume i.
abbrev pub entry_of : List ℕ → Geometry → ℕ → ℕ → ℕ
entry_of maps g i a = entry maps g i (slice_of g a)

-- An entry that is neither the mark nor below P.
abbrev pub bad_entry : ℕ → ℕ → Bool
bad_entry p x = not (eqb x unmapped || ltb x p)

-- An entry x of logical slice σ, in a volume of n logical slices, is a slice that may stand there: it is below P, and σ below n
-- (document 02, P4).
abbrev pub placed : (p n σ x : ℕ) → Bool
placed p n σ x = ltb x p && ltb σ n

-- It is bad there where it is neither the mark nor such a slice.
abbrev pub bad_entry_at : (p n σ x : ℕ) → Bool
bad_entry_at p n σ x = not (eqb x unmapped || placed p n σ x)

-- ---- refusals: the first whose condition holds, 0 for none

-- 20 (a start place above P too, and an N of volumes 0 to k that is not allowed: document 02, P2 and P4), 2 and 4, from the lengths of
-- the device and the tables.
unfoldable pub standing : (device maps owners : ℕ) → Session → (rest : ℕ) → ℕ
standing device maps owners s rest =
    refuse (not s.opened) 20
    (bad_geometry 20 s.geometry
    (refuse (ltb 14 s.k) 20
    (refuse (ltb s.geometry.p s.start) 20
    (refuse (any_bad_count s.geometry.p s.counts (s.k + 1)) 20
    (refuse (not (eqb device (device_length s.geometry))) 2
    (refuse (not (eqb maps (15 * s.geometry.p))) 4
    (refuse (not (eqb owners s.geometry.p)) 4
    rest)))))))

-- 11, of the asked volume.
abbrev pub asked_volume : (k i rest : ℕ) → ℕ
asked_volume k i rest = refuse (ltb k i) 11 rest

-- 11, 12 (at or above N × S), 13 (of a buffer or text len bytes long) and 9 (the asked entry alone), of an asked block.
unfoldable pub asked : (maps : List ℕ) → Session → (i a len : ℕ) → ℕ
asked maps s i a len =
    asked_volume s.k i
    (refuse (leb (block_count s i) a) 12
    (refuse (not (eqb len s.geometry.b)) 13
    (refuse (bad_entry s.geometry.p (entry_of maps s.geometry i a)) 9
    0)))

-- 21: the position past the end of a tape, or fewer bytes left than needed.
unfoldable pub short : (tape position need : ℕ) → Bool
short tape position need = ltb tape position || ltb (tape - position) need

-- What is served where no refusal holds (0), else what the refusal gives.
abbrev pub unless : {A : Type 0} → ℕ → (ℕ → A) → A → A
unless zero refusal served = served
unless (suc n) refusal served = refusal (suc n)

-- ---- what a call leaves

-- An answer, the patches that the call stores on the device, and what is held afterwards.
pub record Outcome (A : Type 0) : Type 0 where
  pub answer : A
  pub patches : List Patch
  pub held : Held

-- A call that changes nothing.
abbrev pub idle : {A : Type 0} → Held → A → Outcome A
idle h a = record { answer = a; patches = []; held = h }

-- The answer of a call that is lent one list and the tape position, a formatting or a shuffle: what both are afterwards, or the refusal.
pub data LentResult : Type 0 where
  Served : (list : List ℕ) → (position : ℕ) → LentResult
  Refused : ℕ → LentResult

-- No data key: 15 times 32 zeros.
unfoldable pub no_keys : List ℕ
no_keys = replicate 480 0

-- No count: 15 zeros.
abbrev pub no_counts : List ℕ
no_counts = replicate 15 0
