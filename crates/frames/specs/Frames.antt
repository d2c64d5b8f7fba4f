-- One frame of the walk program: its answer and what it leaves (document 01, "The walk program"). Assumes nothing.
use Rattle.std.specs.Prelude.{ℕ, ◌+◌, ◌*◌, List, [], ◌∷◌, true, false, not, ◌&&◌, ltb, leb, eqb, length, get_or}
use Rattle.refusals.specs.Numbers.{refuse}
use Rattle.block.specs.Bytes.{number}
use Rattle.model.specs.declared.Geometry.{Geometry}
use Rattle.model.specs.Parts.{choose, part}
use Rattle.model.specs.Geometry.{bad_geometry}
use Rattle.model.specs.Session.{geometry, unless}
use Rattle.model.specs.Permutation.{missing}
use Rattle.lines.specs.Hexadecimal.{Spelt, Bytes, Neither}
use Rattle.claims.specs.State.{State, empty}
use Rattle.claims.specs.Claims.{Stepped, refused_by, written}

-- A line that is accepted.
abbrev pub accepted : State → Stepped
accepted w = record { state = w; answer = 0 ∷ [] }

-- ---- frame 01: B, S and P, two bytes each

-- The geometry in the fields of a frame 01.
abbrev pub size_of : List ℕ → Geometry
size_of fields = record { b = number (part 0 2 fields); s = number (part 2 2 fields); p = number (part 4 2 fields) }

-- A wrong length or an accepted 01 before it is 14; P above 256, or B, S or P not allowed, is 1.
abbrev pub size_refusal : State → (fields : List ℕ) → ℕ
size_refusal w fields =
    refuse (not (eqb (length fields) 6)) 14
    (refuse w.sized 14
    (refuse (ltb 256 (size_of fields).p) 1
    (bad_geometry 1 (size_of fields) 0)))

-- A frame 01 that is accepted gives the geometry, with empty maps.
unfoldable pub on_size : State → (fields : List ℕ) → Stepped
on_size w fields =
    unless (size_refusal w fields) (refused_by w)
    (accepted (record { sized = true; shuffled = false; counted = w.counted; perm = []; held = empty (size_of fields) }))

-- ---- frame 02: P slices of two bytes

-- The numbers of two bytes each, end to end; an odd byte at the end is no number.
unfoldable pub pairs : List ℕ → List ℕ
pairs [] = []
pairs (h ∷ []) = []
pairs (h ∷ l ∷ bytes) = number (h ∷ l ∷ []) ∷ pairs bytes

-- An accepted 02 before it is 14; no accepted 01 is 20; a wrong permutation, wrong length included, is 5.
abbrev pub order_refusal : State → (fields : List ℕ) → ℕ
order_refusal w fields =
    refuse w.shuffled 14
    (refuse (not w.sized) 20
    (refuse (not (eqb (length fields) (2 * (geometry w.held).p))) 5
    (refuse (missing (geometry w.held).p (pairs fields)) 5
    0)))

-- A frame 02 that is accepted gives the permutation.
unfoldable pub on_order : State → (fields : List ℕ) → Stepped
on_order w fields =
    unless (order_refusal w fields) (refused_by w)
    (accepted (record w { shuffled = true; perm = pairs fields }))

-- ---- frame 03: volume, one byte, and address, four

-- A state with one frame 03 more.
abbrev pub counting : State → State
counting w = record w { counted = w.counted + 1 }

-- A wrong length, or 4,096 of the right length before it, is 14; each other one is counted, and is 20 before a 01 and a 02
-- are accepted.
unfoldable pub on_claim : State → (fields : List ℕ) → Stepped
on_claim w fields =
    unless (refuse (not (eqb (length fields) 5)) 14 (refuse (leb 4096 w.counted) 14 0)) (refused_by w)
    (unless (refuse (not (w.sized && w.shuffled)) 20 0) (refused_by (counting w))
    (written (counting w) (get_or fields 0 0) (number (part 1 4 fields))))

-- ---- any frame

-- A frame by its kind; an unknown kind is 14.
unfoldable pub on_kind : State → (kind : ℕ) → (fields : List ℕ) → Stepped
on_kind w kind fields =
    choose (eqb kind 1) (on_size w fields)
    (choose (eqb kind 2) (on_order w fields)
    (choose (eqb kind 3) (on_claim w fields)
    (refused_by w 14)))

-- Not hexadecimal, odd digits, empty and a frame over 513 bytes are 14.
unfoldable pub on_frame : State → Spelt → Stepped
on_frame w Neither = refused_by w 14
on_frame w (Bytes []) = refused_by w 14
on_frame w (Bytes (kind ∷ fields)) = choose (ltb 513 (1 + length fields)) (refused_by w 14) (on_kind w kind fields)
