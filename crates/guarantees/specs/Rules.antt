-- Point 1 (README.md, "What is proved"): the listed refusals of each call in their listed order, each with its condition (document 01,
-- "Refused for ..", and the orders of the calls; document 02, P1, P2, P4 to P7). The conditions are the documents', in their own words
-- and not the model's. Assumes nothing.
use Rattle.std.specs.Prelude.{ℕ, ◌+◌, ◌-◌, ◌*◌, ◌≤◌, ◌<◌, ◌≡◌, ◌⊎◌, List, [], ◌∷◌, ◌++◌, length}
use Rattle.model.specs.declared.Geometry.{Geometry}
use Rattle.model.specs.declared.Session.{Session}
use Rattle.model.specs.Conditions.{Counted, Usable, TablesFit, EntryFits, BlockFits, Enough, AllHeld, FirstFree, FirstBad, Names, EnoughDraws}
use Rattle.model.specs.Parts.{part}
use Rattle.model.specs.Geometry.{Allowed, device_length, map_blocks, iv_start, block_start}
use Rattle.model.specs.Session.{Held, geometry, count_of, unmapped, entry, entry_of, slice_of, offset_of}

-- A refusal with the places looked at that it carries, and its condition.
pub record Rule : Type 1 where
  pub number : ℕ
  pub probes : ℕ
  pub holds : Type 0

abbrev pub rule : ℕ → Type 0 → Rule
rule n holds = record { number = n; probes = 0; holds = holds }

-- n and c are the number and the count of the first rule whose condition holds; 0 and 0 where none does.
unfoldable pub First : List Rule → (n c : ℕ) → Type 0
First [] n c = (n ≡ 0) × (c ≡ 0)
First (r ∷ rs) n c = (r.holds × (n ≡ r.number) × (c ≡ r.probes)) ⊎ ((r.holds → ⊥) × First rs n c)

-- ---- what a request asks for

-- The entry of block address a of volume i in the held map table.
abbrev pub held_entry : Held → (i a : ℕ) → ℕ
held_entry h i a = entry_of h.maps (geometry h) i a

-- The entry of logical slice σ of volume i there.
abbrev pub table_entry : Held → (i σ : ℕ) → ℕ
table_entry h i σ = entry h.maps (geometry h) i σ

-- The IV and the ciphertext of the block at address a, in slice ψ of a device.
abbrev pub iv_in : List ℕ → Geometry → (ψ a : ℕ) → List ℕ
iv_in device g ψ a = part (iv_start g ψ (offset_of g a)) 16 device

abbrev pub block_in : List ℕ → Geometry → (ψ a : ℕ) → List ℕ
block_in device g ψ a = part (block_start g ψ (offset_of g a)) g.b device

-- From the start place on, place n is the first free one, or the first that names no slice, or all are held.
abbrev pub FreeAt : Held → (perm : List ℕ) → (n : ℕ) → Type 0
FreeAt h perm n = FirstFree h.owners (geometry h).p perm h.session.start n

abbrev pub BadAt : Held → (perm : List ℕ) → (n : ℕ) → Type 0
BadAt h perm n = FirstBad h.owners (geometry h).p perm h.session.start n

abbrev pub NoneFree : Held → (perm : List ℕ) → Type 0
NoneFree h perm = AllHeld h.owners (geometry h).p perm h.session.start (length perm)

-- Place n is where the search of a claim ends; any where all are held.
abbrev pub SearchEnds : Held → (perm : List ℕ) → (n : ℕ) → Type 0
SearchEnds h perm n = FreeAt h perm n ⊎ BadAt h perm n ⊎ NoneFree h perm

-- The places looked at where the search ends at place n: those from the start place up to it, that one included.
abbrev pub probes_at : Held → (n : ℕ) → ℕ
probes_at h n = n + 1 - h.session.start

-- And where it finds none free: all from the start place on.
abbrev pub all_probes : Held → ℕ
all_probes h = (geometry h).p - h.session.start

-- ---- the orders

-- 20, 2, 4.
abbrev pub standing_rules : (device maps owners : ℕ) → Session → List Rule
standing_rules device maps owners s =
    rule 20 (Usable s → ⊥)
    ∷ rule 2 (device ≡ device_length s.geometry → ⊥)
    ∷ rule 4 (TablesFit s.geometry maps owners → ⊥)
    ∷ []

-- 11, 12 (at or above N × S: document 02, P4), 13, 9.
abbrev pub asked_rules : (maps : List ℕ) → Session → (i a len : ℕ) → List Rule
asked_rules maps s i a len =
    rule 11 (s.k < i)
    ∷ rule 12 (count_of s i * s.geometry.s ≤ a)
    ∷ rule 13 (len ≡ s.geometry.b → ⊥)
    ∷ rule 9 (EntryFits s.geometry (entry_of maps s.geometry i a) → ⊥)
    ∷ []

-- Opening: 1 to 5; what follows them is said by the cells, the headers and the maps.
abbrev pub open_rules : Geometry → (device key maps owners : ℕ) → (perm : List ℕ) → List Rule
open_rules g device key maps owners perm =
    rule 1 (Allowed g → ⊥)
    ∷ rule 2 (device ≡ device_length g → ⊥)
    ∷ rule 3 (key ≡ 32 → ⊥)
    ∷ rule 4 (TablesFit g maps owners → ⊥)
    ∷ rule 5 (Names g.p perm → ⊥)
    ∷ []

-- The tape bytes of a formatting with n keys: the device, and 88 + 16 × m for each volume (VMK 32, VEK 32, the IV of its cell 12, that
-- of its header 12, those of its map blocks 16 each).
abbrev pub format_tape : Geometry → (n : ℕ) → ℕ
format_tape g n = device_length g + n * (88 + 16 * map_blocks g)

-- Formatting: 1 (the geometry, or other than one count for each key, or one that is not 1 to P: document 02, P4), 2, 23, 3, 21; what
-- follows them, 24, is said by the cells.
abbrev pub format_rules : (device : ℕ) → Geometry → (n keys : ℕ) → (counts : List ℕ) → (tape position : ℕ) → List Rule
format_rules device g n keys counts tape position =
    rule 1 (Allowed g × Counted g.p n counts → ⊥)
    ∷ rule 2 (device ≡ device_length g → ⊥)
    ∷ rule 23 ((n ≡ 0) ⊎ (15 < n))
    ∷ rule 3 (keys ≡ 32 * n → ⊥)
    ∷ rule 21 (Enough tape position (format_tape g n) → ⊥)
    ∷ []

-- Shuffle of a list of so many places: 1, 4, 21, also where the position is past the end of the tape (document 02, P6).
abbrev pub shuffle_rules : Geometry → (list : ℕ) → (tape : List ℕ) → (position : ℕ) → List Rule
shuffle_rules g list tape position =
    rule 1 (Allowed g → ⊥)
    ∷ rule 4 (list ≡ g.p → ⊥)
    ∷ rule 21 (EnoughDraws tape position (g.p - 1) → ⊥)
    ∷ []

-- Read: 20, 2, 4, 11, 12, 13, 9.
abbrev pub read_rules : (device : ℕ) → (maps owners : List ℕ) → Session → (i a room : ℕ) → List Rule
read_rules device maps owners s i a room = standing_rules device (length maps) (length owners) s ++ asked_rules maps s i a room

-- Every entry in the map block of logical slice σ of volume i fits.
abbrev pub HeldFits : Held → (i σ : ℕ) → Type 0
HeldFits h i σ = BlockFits h.maps h.session i σ

-- Write: 20, 2, 4, 5 (length), 11, 12, 13, 9; then 21 for a rewrite, and for a claim 9 for a bad entry anywhere in the map block of the
-- asked one (document 02, P7), 5 at place n or 22, then 21, with the places looked at, which are those from the start place on
-- (document 02, P2). A claim takes B tape bytes, and 16 for the map block.
abbrev pub write_rules : (device : ℕ) → Held → (i a : ℕ) → (text perm tape : List ℕ) → (n : ℕ) → List Rule
write_rules device h i a text perm tape n =
    standing_rules device (length h.maps) (length h.owners) h.session
    ++ (rule 5 (length perm ≡ (geometry h).p → ⊥)
    ∷ (asked_rules h.maps h.session i a (length text)
    ++ (rule 21 ((held_entry h i a < (geometry h).p) × (Enough (length tape) h.position 16 → ⊥))
    ∷ rule 9 ((held_entry h i a ≡ unmapped) × (HeldFits h i (slice_of (geometry h) a) → ⊥))
    ∷ record { number = 5; probes = probes_at h n; holds = (held_entry h i a ≡ unmapped) × BadAt h perm n }
    ∷ record { number = 22; probes = all_probes h; holds = (held_entry h i a ≡ unmapped) × NoneFree h perm }
    ∷ record {
      number = 21;
      probes = probes_at h n;
      holds = (held_entry h i a ≡ unmapped) × (Enough (length tape) h.position ((geometry h).b + 16) → ⊥);
    }
    ∷ [])))

-- Release: 20, 2, 4, 5 (the whole permutation), 11, 12 (at or above N), 9 (a bad entry anywhere in the map block of the asked one), 25, 21
-- (document 02, P5 and P7).
abbrev pub release_rules : (device : ℕ) → Held → (i σ : ℕ) → (perm : List ℕ) → (tape : ℕ) → List Rule
release_rules device h i σ perm tape =
    standing_rules device (length h.maps) (length h.owners) h.session
    ++ (rule 5 (Names (geometry h).p perm → ⊥)
    ∷ rule 11 (h.session.k < i)
    ∷ rule 12 (count_of h.session i ≤ σ)
    ∷ rule 9 (HeldFits h i σ → ⊥)
    ∷ rule 25 (table_entry h i σ ≡ unmapped)
    ∷ rule 21 (Enough tape h.position 16 → ⊥)
    ∷ [])

-- Close: 20, 2, 4 (document 02, P7).
abbrev pub close_rules : (device : ℕ) → Held → List Rule
close_rules device h = standing_rules device (length h.maps) (length h.owners) h.session
