-- The geometry of a device and the place of each thing on it (document 01, "Geometry of a stick"). Assumes nothing.
use Rattle.std.specs.Prelude.{ℕ, ◌+◌, ◌-◌, ◌*◌, ◌/◌, ◌≤◌, ◌≡◌, ◌⊎◌, Bool, not, ◌||◌, List, ltb, eqb, get_or}
use Rattle.refusals.specs.Numbers.{refuse}
use Rattle.block.specs.Bytes.{number, big_endian}
use Rattle.model.specs.declared.Geometry.{Geometry}
use Rattle.model.specs.Parts.{part, any_below}

-- B is 1,024 or 4,096, S is 1 to B/16 and P is 1 to 4,096, else the refusal (1 at opening, 20 of a session).
unfoldable pub bad_geometry : (refusal : ℕ) → Geometry → (rest : ℕ) → ℕ
bad_geometry refusal g rest =
    refuse (not (eqb g.b 1024 || eqb g.b 4096)) refusal
    (refuse (ltb g.s 1) refusal
    (refuse (ltb (g.b / 16) g.s) refusal
    (refuse (ltb g.p 1) refusal
    (refuse (ltb 4096 g.p) refusal
    rest))))

-- B, S and P allowed, as facts.
pub record Allowed (g : Geometry) : Type 0 where
  pub block : (g.b ≡ 1024) ⊎ (g.b ≡ 4096)
  pub slice_least : 1 ≤ g.s
  pub slice_most : g.s ≤ g.b / 16
  pub slices_least : 1 ≤ g.p
  pub slices_most : g.p ≤ 4096

-- ---- the logical slices of a volume (document 02, P4)

-- N, the count of logical slices of volume i, among counts from volume 0 up.
abbrev pub count_in : (counts : List ℕ) → (i : ℕ) → ℕ
count_in counts i = get_or counts i 0

-- A count that is not 1 to P.
abbrev pub bad_count : (p n : ℕ) → Bool
bad_count p n = ltb n 1 || ltb p n

-- Whether one of the first n counts is not allowed.
unfoldable pub any_bad_count : (p : ℕ) → (counts : List ℕ) → (n : ℕ) → Bool
any_bad_count p counts n = any_below (λ i. bad_count p (count_in counts i)) n

-- ---- lengths

-- The entries in a map block.
abbrev pub per_block : Geometry → ℕ
per_block g = (g.b - 16) / 4

-- m, the map blocks of each volume: P divided by the entries in one, rounded up.
unfoldable pub map_blocks : Geometry → ℕ
map_blocks g = (g.p + (per_block g - 1)) / per_block g

-- H, the header blocks.
unfoldable pub header_blocks : Geometry → ℕ
header_blocks g = 1 + 15 * (1 + map_blocks g)

-- The bytes of a device.
unfoldable pub device_length : Geometry → ℕ
device_length g = g.b * (header_blocks g + g.p * (g.s + 1))

-- ---- numbers on the device

-- The number in the four bytes from place at on.
abbrev pub number_at : ℕ → List ℕ → ℕ
number_at at s = number (part at 4 s)

-- The four bytes of a number.
abbrev pub four_bytes : ℕ → List ℕ
four_bytes n = big_endian 4 n

-- ---- key cells and headers

-- Key cell i of the master block: 60 bytes.
abbrev pub cell_start : ℕ → ℕ
cell_start i = 16 + 60 * i

abbrev pub cell_of : List ℕ → ℕ → List ℕ
cell_of device i = part (cell_start i) 60 device

-- Volume header i: its first block, then m map blocks.
abbrev pub header_start : Geometry → ℕ → ℕ
header_start g i = g.b * (1 + i * (1 + map_blocks g))

abbrev pub header_of : Geometry → List ℕ → ℕ → List ℕ
header_of g device i = part (header_start g i) (g.b * (1 + map_blocks g)) device

-- The first map block of volume i.
unfoldable pub map_start : Geometry → ℕ → ℕ
map_start g i = header_start g i + g.b

-- Map block t of volume i.
abbrev pub map_block_start : Geometry → (i t : ℕ) → ℕ
map_block_start g i t = map_start g i + g.b * t

-- ---- slices

-- Slice ψ: its IV block, then S data blocks.
unfoldable pub slice_start : Geometry → ℕ → ℕ
slice_start g ψ = g.b * (header_blocks g + ψ * (g.s + 1))

unfoldable pub slice_size : Geometry → ℕ
slice_size g = g.b * (g.s + 1)

-- The IV of data block j of slice ψ.
unfoldable pub iv_start : Geometry → ℕ → ℕ → ℕ
iv_start g ψ j = slice_start g ψ + 16 * j

-- Data block j of slice ψ.
unfoldable pub block_start : Geometry → ℕ → ℕ → ℕ
block_start g ψ j = slice_start g ψ + g.b * (1 + j)
