-- Formatting (document 02, P1 and P4). It looks at no byte of the device, only at its length: what the device held before has no
-- influence on what it holds afterwards. Assumes nothing.
use Rattle.std.specs.Prelude.{ℕ, zero, suc, ◌+◌, ◌*◌, List, [], ◌∷◌, ◌++◌, Bool, true, false, not, ◌||◌, length, replicate, ltb, eqb}
use Rattle.refusals.specs.Numbers.{refuse}
use Rattle.gcm_spec.specs.Gcm.{gcm_text, gcm_tag}
use Rattle.model.specs.declared.Geometry.{Geometry}
use Rattle.model.specs.Parts.{part, Patch, patched}
use Rattle.model.specs.Geometry.{bad_geometry, count_in, any_bad_count, device_length, map_blocks, four_bytes, cell_start, header_start, map_start}
use Rattle.model.specs.Session.{LentResult, Served, Refused, key_in, short, unless}
use Rattle.model.specs.Opening.{Cell, At, NoCell, first_cell, no_maps}
use Rattle.model.specs.Maps.{map_bytes}

-- ---- what is drawn: the whole device, VMK and VEK of each volume, the IV of each cell, the IVs of each header and its map

-- VMK i and VEK i, among the bytes drawn.
abbrev pub drawn_vmk : Geometry → (drawn : List ℕ) → (i : ℕ) → List ℕ
drawn_vmk g drawn i = part (device_length g + 64 * i) 32 drawn

abbrev pub drawn_vek : Geometry → (drawn : List ℕ) → (i : ℕ) → List ℕ
drawn_vek g drawn i = part (device_length g + 64 * i + 32) 32 drawn

-- The IV of cell i, after the keys of n volumes.
abbrev pub cell_iv : Geometry → (n : ℕ) → (drawn : List ℕ) → (i : ℕ) → List ℕ
cell_iv g n drawn i = part (device_length g + 64 * n + 12 * i) 12 drawn

-- Where the IVs of volume i stand, after those of n cells: that of its header, then those of its m map blocks.
abbrev pub header_iv_at : Geometry → (n i : ℕ) → ℕ
header_iv_at g n i = device_length g + 76 * n + (12 + 16 * map_blocks g) * i

abbrev pub map_iv_at : Geometry → (n i : ℕ) → ℕ
map_iv_at g n i = header_iv_at g n i + 12

abbrev pub header_iv : Geometry → (n : ℕ) → (drawn : List ℕ) → (i : ℕ) → List ℕ
header_iv g n drawn i = part (header_iv_at g n i) 12 drawn

-- The tape bytes of a formatting with n keys.
unfoldable pub format_need : Geometry → (n : ℕ) → ℕ
format_need g n = device_length g + n * (88 + 16 * map_blocks g)

-- ---- what is stored

-- A text sealed by GCM with the one byte i as associated data: IV, ciphertext, tag.
unfoldable pub sealed : (key iv : List ℕ) → (i : ℕ) → (text : List ℕ) → List ℕ
sealed key iv i text = iv ++ (gcm_text key iv text ++ gcm_tag key iv (i ∷ []) (gcm_text key iv text))

-- Key cell i: VMK i under key i.
abbrev pub made_cell : Geometry → (n : ℕ) → (keys drawn : List ℕ) → (i : ℕ) → List ℕ
made_cell g n keys drawn i = sealed (key_in keys i) (cell_iv g n drawn i) i (drawn_vmk g drawn i)

-- The VMK below volume i: 32 zeros below volume 0.
abbrev pub made_below : Geometry → (drawn : List ℕ) → (i : ℕ) → List ℕ
made_below g drawn zero = replicate 32 0
made_below g drawn (suc i) = drawn_vmk g drawn i

-- The text of header i: the VEK, the VMK below, the volume's N (document 02, P4), S.
abbrev pub made_text : Geometry → (counts drawn : List ℕ) → (i : ℕ) → List ℕ
made_text g counts drawn i = drawn_vek g drawn i ++ (made_below g drawn i ++ (four_bytes (count_in counts i) ++ four_bytes g.s))

-- Header i: its text under VMK i.
abbrev pub made_header : Geometry → (n : ℕ) → (counts drawn : List ℕ) → (i : ℕ) → List ℕ
made_header g n counts drawn i = sealed (drawn_vmk g drawn i) (header_iv g n drawn i) (16 + i) (made_text g counts drawn i)

-- The map blocks of volume i: those of a map that holds nothing.
abbrev pub made_map : Geometry → (n : ℕ) → (drawn : List ℕ) → (i : ℕ) → List ℕ
made_map g n drawn i = map_bytes (no_maps g) g (drawn_vek g drawn i) drawn (map_iv_at g n i) i

-- The first c cells, and the headers with their maps of the first v volumes.
unfoldable pub cell_patches : Geometry → (n : ℕ) → (keys drawn : List ℕ) → (c : ℕ) → List Patch
cell_patches g n keys drawn zero = []
cell_patches g n keys drawn (suc c) =
    cell_patches g n keys drawn c ++ record { at = cell_start c; bytes = made_cell g n keys drawn c } ∷ []

unfoldable pub header_patches : Geometry → (n : ℕ) → (counts drawn : List ℕ) → (v : ℕ) → List Patch
header_patches g n counts drawn zero = []
header_patches g n counts drawn (suc v) =
    header_patches g n counts drawn v
    ++ record { at = header_start g v; bytes = made_header g n counts drawn v }
    ∷ record { at = map_start g v; bytes = made_map g n drawn v }
    ∷ []

-- The device: filled from the tape, then the cells from 0 up, then the headers with their maps.
unfoldable pub formatted : Geometry → (n : ℕ) → (keys counts drawn : List ℕ) → List ℕ
formatted g n keys counts drawn =
    patched (cell_patches g n keys drawn n ++ header_patches g n counts drawn n) (part 0 (device_length g) drawn)

-- ---- the call

-- Whether a cell was found.
abbrev pub found : Cell → Bool
found (At k vmk) = true
found NoCell = false

-- Whether one of the first n keys opens a cell below its own.
unfoldable pub lower_opens : (keys : List ℕ) → (cell : ℕ → List ℕ) → (n : ℕ) → Bool
lower_opens keys cell zero = false
lower_opens keys cell (suc i) = lower_opens keys cell i || found (first_cell (key_in keys i) cell i 0)

-- 1 (other than one count a key, or one that is not allowed, too: document 02, P4), 2, 23, 3, 21, from the counts and the lengths of
-- device, keys and tape, then the rest.
unfoldable pub format_refusal : (device : ℕ) → Geometry → (n keys : ℕ) → (counts : List ℕ) → (tape position rest : ℕ) → ℕ
format_refusal device g n keys counts tape position rest =
    bad_geometry 1 g
    (refuse (not (eqb (length counts) n)) 1
    (refuse (any_bad_count g.p counts n) 1
    (refuse (not (eqb device (device_length g))) 2
    (refuse (ltb n 1) 23
    (refuse (ltb 15 n) 23
    (refuse (not (eqb keys (32 * n))) 3
    (refuse (short tape position (format_need g n)) 21
    rest)))))))

-- 24 where a key opens a lower cell as it will stand, made from the bytes drawn; else 0.
abbrev pub lower_refusal : Geometry → (n : ℕ) → (keys drawn : List ℕ) → ℕ
lower_refusal g n keys drawn = refuse (lower_opens keys (made_cell g n keys drawn) n) 24 0

-- Formatting of a device of so many bytes with n keys, which stand end to end, and a count of slices for each (document 02, P4).
unfoldable pub format_model : (device : ℕ) → Geometry → (n : ℕ) → (keys counts tape : List ℕ) → (position : ℕ) → LentResult
format_model device g n keys counts tape position =
    unless
    (format_refusal device g n (length keys) counts (length tape) position (lower_refusal g n keys (part position (format_need g n) tape)))
    Refused
    (Served (formatted g n keys counts (part position (format_need g n) tape)) (position + format_need g n))
