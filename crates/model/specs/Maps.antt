-- Map blocks: what one holds, where the entry of a logical slice stands among them, and whether one of its entries is bad (document 01,
-- "Volume header"; document 02, P7). Assumes nothing.
use Rattle.std.specs.Prelude.{ℕ, ◌+◌, ◌-◌, ◌*◌, ◌/◌, min, List, ◌++◌, Bool, ltb}
use Rattle.ctr_spec.specs.CounterMode.{ctr}
use Rattle.model.specs.declared.Geometry.{Geometry}
use Rattle.model.specs.declared.Session.{Session}
use Rattle.model.specs.Parts.{choose, any_below, part, joined, Patch}
use Rattle.model.specs.Geometry.{per_block, map_blocks, map_block_start, four_bytes}
use Rattle.model.specs.Session.{key_of, count_of, entry, unmapped, bad_entry_at}

-- ---- what a map block holds

-- The entries of map block t of volume i as bytes; entries past the last are the mark.
unfoldable pub map_text : (maps : List ℕ) → Geometry → (i t : ℕ) → List ℕ
map_text maps g i t =
    joined (per_block g) (λ e. four_bytes (choose (ltb (t * per_block g + e) g.p) (entry maps g i (t * per_block g + e)) unmapped))

-- Map block t of volume i under an IV.
unfoldable pub map_block : (maps : List ℕ) → Geometry → (key : List ℕ) → (i t : ℕ) → (iv : List ℕ) → List ℕ
map_block maps g key i t iv = iv ++ ctr key iv (map_text maps g i t)

-- The m map blocks of volume i, their IVs from the tape from a place on.
unfoldable pub map_bytes : (maps : List ℕ) → Geometry → (key tape : List ℕ) → (at i : ℕ) → List ℕ
map_bytes maps g key tape at i = joined (map_blocks g) (λ t. map_block maps g key i t (part (at + 16 * t) 16 tape))

-- ---- the map block of one entry (document 02, P7)

-- The number of the map block that has the entry of logical slice σ.
abbrev pub map_block_of : Geometry → (σ : ℕ) → ℕ
map_block_of g σ = σ / per_block g

-- That block of volume i, made from a map table with an IV, at its place.
abbrev pub map_patch : (maps : List ℕ) → Session → (i σ : ℕ) → (iv : List ℕ) → Patch
map_patch maps s i σ iv =
    record {
      at = map_block_start s.geometry i (map_block_of s.geometry σ);
      bytes = map_block maps s.geometry (key_of s i) i (map_block_of s.geometry σ) iv;
    }

-- The entries of map block t that are entries of logical slices: all of them, in the last block what is left of P.
abbrev pub entries_in : Geometry → (t : ℕ) → ℕ
entries_in g t = min (per_block g) (g.p - t * per_block g)

-- Whether one of them is bad, in the block that has the entry of logical slice σ of volume i.
unfoldable pub bad_in_block : (maps : List ℕ) → Session → (i σ : ℕ) → Bool
bad_in_block maps s i σ =
    let t = map_block_of s.geometry σ in
    let first = t * per_block s.geometry in
    any_below (λ e. bad_entry_at s.geometry.p (count_of s i) (first + e) (entry maps s.geometry i (first + e))) (entries_in s.geometry t)
