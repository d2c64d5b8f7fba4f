-- Point 1 for formatting (document 02, P1 and P4): what is drawn and in which order, what then stands on the device, and when each
-- answer is due. The words are the document's and not the model's. Assumes nothing.
use Rattle.std.specs.Prelude.{ℕ, zero, suc, ◌+◌, ◌-◌, ◌*◌, ◌<◌, ◌≡◌, List, [], ◌∷◌, ◌++◌, length, get_or, replicate}
use Rattle.ctr_spec.specs.CounterMode.{ctr}
use Rattle.gcm_spec.specs.Gcm.{Text, WrongTag, gcm_text, gcm_tag}
use Rattle.model.specs.declared.Geometry.{Geometry}
use Rattle.model.specs.Parts.{part, joined}
use Rattle.model.specs.Geometry.{count_in, device_length, map_blocks, four_bytes, cell_start, header_start, map_start}
use Rattle.model.specs.Session.{key_in}
use Rattle.model.specs.Opening.{open_cell}
use Rattle.model.specs.Session.{LentResult}
use Rattle.model.specs.Theorems.{Sealed}
use Rattle.guarantees.specs.Runs.{Range, Within}
use Rattle.guarantees.specs.Rules.{First, format_rules, format_tape}

-- ---- what is drawn

-- Tape bytes, taken apart draw by draw for n volumes: the whole device; VMK and VEK of each volume from 0 up; the IV of each cell
-- from 0 up; then for each volume the IV of its header and those of its map blocks. Nothing is left over.
pub record Draws (g : Geometry) (n : ℕ) (drawn : List ℕ) : Type 0 where
  pub noise : List ℕ
  pub vmk : ℕ → List ℕ
  pub vek : ℕ → List ℕ
  pub cell_iv : ℕ → List ℕ
  pub header_iv : ℕ → List ℕ
  pub map_iv : ℕ → ℕ → List ℕ
  pub noise_long : length noise ≡ device_length g
  pub vmk_long : (i : ℕ) → i < n → length (vmk i) ≡ 32
  pub vek_long : (i : ℕ) → i < n → length (vek i) ≡ 32
  pub cell_iv_long : (i : ℕ) → i < n → length (cell_iv i) ≡ 12
  pub header_iv_long : (i : ℕ) → i < n → length (header_iv i) ≡ 12
  pub map_iv_long : (i t : ℕ) → i < n → t < map_blocks g → length (map_iv i t) ≡ 16
  pub in_order : drawn
      ≡ noise
      ++ (joined n (λ i. vmk i ++ vek i)
      ++ (joined n cell_iv
      ++ joined n (λ i. header_iv i ++ joined (map_blocks g) (map_iv i))))

-- ---- what stands on the device

-- The VMK below a volume: 32 zeros below volume 0.
abbrev pub below_of : (vmk : ℕ → List ℕ) → ℕ → List ℕ
below_of vmk zero = replicate 32 0
below_of vmk (suc i) = vmk i

-- The places of the cells, headers and maps of the first n volumes.
abbrev pub made_ranges : Geometry → ℕ → List Range
made_ranges g zero = []
made_ranges g (suc i) =
    made_ranges g i
    ++ record { at = cell_start i; size = 60 }
    ∷ record { at = header_start g i; size = 100 }
    ∷ record { at = map_start g i; size = g.b * map_blocks g }
    ∷ []

-- Cell i has VMK i sealed under key i with the byte i; header i has VEK i, the VMK below, count i and S sealed under VMK i with the byte
-- 16 + i; each map block has its marks, B - 16 bytes FF, in counter mode under VEK i. Each has its own IV of those drawn. All else is noise.
pub record Made (g : Geometry) (n : ℕ) (keys counts drawn : List ℕ) (d : Draws g n drawn) (device : List ℕ) : Type 0 where
  pub long : length device ≡ device_length g
  pub cell_iv_lem : (i : ℕ) → i < n → part (cell_start i) 12 device ≡ d.cell_iv i
  pub cell : (i : ℕ) → i < n → Sealed (key_in keys i) i (cell_start i) 32 device (d.vmk i)
  pub header_iv_lem : (i : ℕ) → i < n → part (header_start g i) 12 device ≡ d.header_iv i
  pub header : (i : ℕ) → i < n
      → Sealed (d.vmk i) (16 + i) (header_start g i) 72 device
      (d.vek i ++ (below_of d.vmk i ++ (four_bytes (count_in counts i) ++ four_bytes g.s)))
  pub map : (i t : ℕ) → i < n → t < map_blocks g
      → part (map_start g i + g.b * t) g.b device ≡ d.map_iv i t ++ ctr (d.vek i) (d.map_iv i t) (replicate (g.b - 16) 0xFF)
  pub noise : (p : ℕ) → (Within p (made_ranges g n) → ⊥) → get_or device p 0 ≡ get_or d.noise p 0

-- ---- the answers

-- Cell j as it will stand, IV, ciphertext and tag, written out and not by the model's definition.
abbrev pub cell_made : {g : Geometry} {n : ℕ} {drawn : List ℕ} → (keys : List ℕ) → Draws g n drawn → (j : ℕ) → List ℕ
cell_made keys d j =
    d.cell_iv j
    ++ (gcm_text (key_in keys j) (d.cell_iv j) (d.vmk j)
    ++ gcm_tag (key_in keys j) (d.cell_iv j) (j ∷ []) (gcm_text (key_in keys j) (d.cell_iv j) (d.vmk j)))

-- Refused by 1, 2, 23, 3 or 21, the first rule that applies; by 24 where a key opens a lower cell as it will stand; else the
-- device is made, and the position is past the bytes drawn.
pub data FormatAnswered (device : ℕ) (g : Geometry) (n : ℕ) (keys counts tape : List ℕ) (position : ℕ) : LentResult → Type 0 where
  handed_wrong : (r : ℕ) → (r ≡ 0 → ⊥) → First (format_rules device g n (length keys) counts (length tape) position) r 0
      → FormatAnswered device g n keys counts tape position (LentResult.Refused r)
  lower_cell : First (format_rules device g n (length keys) counts (length tape) position) 0 0
      → (d : Draws g n (part position (format_tape g n) tape)) → (i j : ℕ) (vmk : List ℕ) → j < i → i < n
      → open_cell (key_in keys i) j (cell_made keys d j) ≡ Text vmk
      → FormatAnswered device g n keys counts tape position (LentResult.Refused 24)
  served : First (format_rules device g n (length keys) counts (length tape) position) 0 0
      → (d : Draws g n (part position (format_tape g n) tape))
      → ((i j : ℕ) → j < i → i < n → open_cell (key_in keys i) j (cell_made keys d j) ≡ WrongTag)
      → (made : List ℕ) → Made g n keys counts (part position (format_tape g n) tape) d made
      → FormatAnswered device g n keys counts tape position (LentResult.Served made (position + format_tape g n))
