-- Map blocks made from a row of the map table. Assumes nothing.
use Rattle.std.specs.Prelude.{ℕ, ◌+◌, ◌*◌, List, ◌++◌, get_or}
use Rattle.ctr_spec.specs.CounterMode.{ctr}
use Rattle.model.specs.declared.Geometry.{Geometry}
use Rattle.model.specs.Parts.{part, joined}
use Rattle.model.specs.Geometry.{per_block, map_blocks, four_bytes}
use Rattle.model.specs.Session.{unmapped}

-- Entry e of map block t as bytes, where a block has c of them: unmapped past the row's end.
abbrev pub row_entry : (row : List ℕ) → (c t e : ℕ) → List ℕ
row_entry row c t e = four_bytes (get_or row (t * c + e) unmapped)

-- The entries of map block t as bytes.
unfoldable pub row_text : (row : List ℕ) → Geometry → (t : ℕ) → List ℕ
row_text row g t = joined (per_block g) (row_entry row (per_block g) t)

-- Map block t under an IV.
abbrev pub row_block : (row : List ℕ) → Geometry → (key : List ℕ) → (t : ℕ) → (iv : List ℕ) → List ℕ
row_block row g key t iv = iv ++ ctr key iv (row_text row g t)

-- The m map blocks of a volume, their IVs from the tape from a place on.
unfoldable pub row_bytes : (row : List ℕ) → Geometry → (key tape : List ℕ) → (at : ℕ) → List ℕ
row_bytes row g key tape at = joined (map_blocks g) (λ t. row_block row g key t (part (at + 16 * t) 16 tape))
