-- The structs that the C functions are lent (include/hiwalgam.h), as bytes: every field is eight bytes, or a list of such, or a list of
-- bytes whose length is a multiple of eight, so that C leaves no gap between them. Of each: whether bytes have its size, what they hold,
-- and the bytes that are written to it. Assumes nothing.
use Rattle.std.specs.Prelude.{ℕ, Bool, true, false, ◌||◌, List, ◌++◌, length, eqb}
use Rattle.model.specs.declared.Geometry.{Geometry}
use Rattle.model.specs.declared.Session.{Session}
use Rattle.model.specs.Parts.{choose, part}
use Rattle.records.specs.Numbers.{eight_at, numbers_at, numbers_bytes, three_bytes}

-- Whether bytes are as many as a struct has.
abbrev pub sized : (size : ℕ) → List ℕ → Bool
sized size r = eqb (length r) size

-- The number 1 for true, 0 for false.
abbrev pub bit_of : Bool → ℕ
bit_of true = 1
bit_of false = 0

-- ---- hiwalgam_geometry: B, S, P

abbrev pub geometry_sized : List ℕ → Bool
geometry_sized r = sized 24 r

abbrev pub geometry_in : List ℕ → Geometry
geometry_in r = record { b = eight_at 0 r; s = eight_at 8 r; p = eight_at 16 r }

abbrev pub geometry_bytes : Geometry → List ℕ
geometry_bytes g = three_bytes g.b g.s g.p

-- ---- hiwalgam_session: its geometry, k, 1 where it is open, the start place, the 15 data keys, the 15 counts (document 02, P4)

abbrev pub session_sized : List ℕ → Bool
session_sized r = sized 648 r

abbrev pub session_in : List ℕ → Session
session_in r =
    record {
      geometry = geometry_in r;
      k = eight_at 24 r;
      keys = part 48 480 r;
      opened = eqb (eight_at 32 r) 1;
      start = eight_at 40 r;
      counts = numbers_at 15 528 r;
    }

abbrev pub session_bytes : Session → List ℕ
session_bytes s =
    geometry_bytes s.geometry ++ (three_bytes s.k (bit_of s.opened) s.start ++ (s.keys ++ numbers_bytes s.counts))

-- The bytes of a session after a call: those handed back where it was served or answered 22, which moves the start place (document
-- 02, P2), else those kept.
abbrev pub handed_back : (number : ℕ) → (handed kept : List ℕ) → List ℕ
handed_back number handed kept = choose (eqb number 0 || eqb number 22) handed kept
