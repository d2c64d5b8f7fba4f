-- Read and find (document 01, "Read", "Finding"). Neither sees the tape position. Assumes nothing.
use Rattle.std.specs.Prelude.{ℕ, List, [], length, replicate, ltb}
use Rattle.ctr_spec.specs.CounterMode.{ctr}
use Rattle.model.specs.declared.Geometry.{Geometry}
use Rattle.model.specs.declared.Session.{Session}
use Rattle.model.specs.Parts.{choose, part}
use Rattle.model.specs.Geometry.{iv_start, block_start}
use Rattle.model.specs.Session.{key_of, entry_of, offset_of, standing, asked, unless}

-- Data block j of the slice that an entry names, deciphered under its IV; B zeros where the entry names none.
unfoldable pub deciphered : Geometry → (key : List ℕ) → (entry j : ℕ) → (device : List ℕ) → List ℕ
deciphered g key ψ j device =
    choose (ltb ψ g.p)
    (ctr key (part (iv_start g ψ j) 16 device) (part (block_start g ψ j) g.b device))
    (replicate g.b 0)

-- The block at address a of volume i.
abbrev pub block_of : (device maps : List ℕ) → Session → (i a : ℕ) → List ℕ
block_of device maps s i a =
    deciphered s.geometry (key_of s i) (entry_of maps s.geometry i a) (offset_of s.geometry a) device

-- 20, 2, 4, 11, 12, 13, 9, with a buffer of room bytes.
unfoldable pub read_refusal : (device : ℕ) → (maps owners : List ℕ) → Session → (i a room : ℕ) → ℕ
read_refusal device maps owners s i a room = standing device (length maps) (length owners) s (asked maps s i a room)

-- The answer of a read: the bytes of the buffer, or the refusal.
pub data ReadResult : Type 0 where
  Filled : List ℕ → ReadResult
  Refused : ℕ → ReadResult

-- Read of block address a of volume i.
unfoldable pub read_model : (device maps owners : List ℕ) → Session → (i a room : ℕ) → ReadResult
read_model device maps owners s i a room =
    unless (read_refusal (length device) maps owners s i a room) Refused (Filled (block_of device maps s i a))

-- Finding: the part of the device that holds the block's ciphertext, empty where a read with a right buffer is refused or
-- the slice is unmapped.
unfoldable pub find_model : (device maps owners : List ℕ) → Session → (i a : ℕ) → List ℕ
find_model device maps owners s i a =
    unless (read_refusal (length device) maps owners s i a s.geometry.b) (λ n. [])
    (choose (ltb (entry_of maps s.geometry i a) s.geometry.p)
    (part (block_start s.geometry (entry_of maps s.geometry i a) (offset_of s.geometry a)) s.geometry.b device)
    [])
