-- Point 1 for an opening: which refusal, or which volume, its cells, headers and maps give (document 01, "Opening" and
-- "Order at opening"; document 02, P4). Assumes nothing.
use Rattle.std.specs.Prelude.{ℕ, suc, ◌+◌, ◌*◌, ◌≤◌, ◌<◌, ◌≡◌, ◌⊎◌, List, false, length, replicate}
use Rattle.gcm_spec.specs.Gcm.{Text, WrongTag}
use Rattle.model.specs.declared.Geometry.{Geometry}
use Rattle.model.specs.Geometry.{count_in, number_at, cell_of, header_of}
use Rattle.model.specs.Conditions.{CountFits, BelowCount}
use Rattle.model.specs.Session.{unmapped, key_in}
use Rattle.model.specs.Opening.{OpenOutcome, OpenTo, NotOpened, open_cell, open_header, vek_of, vmk_below, map_entries}
use Rattle.guarantees.specs.Rules.{First, open_rules}

-- Cell k is the lowest that opens, and holds this VMK.
pub record Lowest (device key : List ℕ) (k : ℕ) (vmk : List ℕ) : Type 0 where
  pub top : k < 15
  pub opens : open_cell key k (cell_of device k) ≡ Text vmk
  pub below : (i : ℕ) → i < k → open_cell key i (cell_of device i) ≡ WrongTag

-- The first number after the keys in a header's text is 1 to P: it is N. The second is the geometry's S (document 02, P4).
abbrev pub HeaderFits : Geometry → (text : List ℕ) → Type 0
HeaderFits g text = CountFits g.p (number_at 64 text) × (number_at 68 text ≡ g.s)

-- The headers k down to i + 1 open and fit, and the last of them gives the VMK of volume i.
pub data Reached (device : List ℕ) (g : Geometry) (k : ℕ) (top : List ℕ) : (i : ℕ) → (vmk : List ℕ) → Type 0 where
  from_cell : Reached device g k top k top
  from_above : (i : ℕ) (vmk text : List ℕ) → Reached device g k top (suc i) vmk
      → open_header vmk (suc i) (header_of g device (suc i)) ≡ Text text → HeaderFits g text → Reached device g k top i (vmk_below text)

-- The header of volume i opens and fits, its text begins with this VEK, and its N is this.
pub record Unlocked (device : List ℕ) (g : Geometry) (k : ℕ) (top : List ℕ) (i : ℕ) (vek : List ℕ) (count : ℕ) : Type 0 where
  pub vmk : List ℕ
  pub text : List ℕ
  pub reached : Reached device g k top i vmk
  pub opens : open_header vmk i (header_of g device i) ≡ Text text
  pub fits : HeaderFits g text
  pub is : vek ≡ vek_of text
  pub counts : count ≡ number_at 64 text

-- Every header k down to 0 opens and fits; keys has their VEKs end to end, and counts their N.
abbrev pub AllUnlocked : (device : List ℕ) → Geometry → (k : ℕ) → (top keys counts : List ℕ) → Type 0
AllUnlocked device g k top keys counts = (i : ℕ) → i ≤ k → Unlocked device g k top i (key_in keys i) (count_in counts i)

-- Each of the first n entries is the mark, or a slice that stands below its volume's N and that no entry before it names.
abbrev pub GoodEntries : (entries : ℕ → ℕ) → (p : ℕ) → (counts : List ℕ) → (n : ℕ) → Type 0
GoodEntries entries p counts n =
    (m : ℕ) → m < n
    → (entries m ≡ unmapped) ⊎ ((entries m < p) × BelowCount p counts m × ((l : ℕ) → l < m → entries l ≡ entries m → ⊥))

-- ---- the answer

-- None of 1 to 5 applies.
abbrev pub Accepted : (device : List ℕ) → Geometry → (key maps owners perm : List ℕ) → Type 0
Accepted device g key maps owners perm = First (open_rules g (length device) (length key) (length maps) (length owners) perm) 0 0

-- A refused opening: its number, the tables that it leaves, and a session that is closed, its numbers and keys 0.
abbrev pub refused_leaving : ℕ → (maps owners : List ℕ) → OpenOutcome
refused_leaving n maps owners =
    record {
      answer = NotOpened n;
      maps = maps;
      owners = owners;
      session =
          record {
            geometry = record { b = 0; s = 0; p = 0 };
            k = 0;
            keys = replicate 480 0;
            opened = false;
            start = 0;
            counts = replicate 15 0;
          };
    }

-- By 6 to 10: 15 × P entries that are the mark, and P owners 0.
abbrev pub refused_empty : ℕ → Geometry → OpenOutcome
refused_empty n g = refused_leaving n (replicate (15 * g.p) unmapped) (replicate g.p 0)

-- Refused by 1 to 5, the first rule that applies, an opening leaves the tables; refused by 6 to 10 it leaves marks and
-- owners 0; it answers k where nothing is wrong.
pub data OpenAnswered (device : List ℕ) (g : Geometry) (key maps owners perm : List ℕ) : OpenOutcome → Type 0 where
  handed_wrong : (n : ℕ) → (n ≡ 0 → ⊥) → First (open_rules g (length device) (length key) (length maps) (length owners) perm) n 0
      → OpenAnswered device g key maps owners perm (refused_leaving n maps owners)
  no_cell : Accepted device g key maps owners perm
      → ((i : ℕ) → i < 15 → open_cell key i (cell_of device i) ≡ WrongTag)
      → OpenAnswered device g key maps owners perm (refused_empty 6 g)
  header_tag : Accepted device g key maps owners perm
      → (k : ℕ) (top : List ℕ) → Lowest device key k top → (i : ℕ) (vmk : List ℕ) → Reached device g k top i vmk
      → open_header vmk i (header_of g device i) ≡ WrongTag
      → OpenAnswered device g key maps owners perm (refused_empty 7 g)
  header_geometry : Accepted device g key maps owners perm
      → (k : ℕ) (top : List ℕ) → Lowest device key k top → (i : ℕ) (vmk text : List ℕ) → Reached device g k top i vmk
      → open_header vmk i (header_of g device i) ≡ Text text → (HeaderFits g text → ⊥)
      → OpenAnswered device g key maps owners perm (refused_empty 8 g)
  bad_entry_lem : Accepted device g key maps owners perm
      → (k : ℕ) (top keys counts : List ℕ) → Lowest device key k top → AllUnlocked device g k top keys counts
      → (n : ℕ) → n < (k + 1) * g.p → GoodEntries (map_entries g (header_of g device) keys) g.p counts n
      → (map_entries g (header_of g device) keys n ≡ unmapped → ⊥)
      → ((map_entries g (header_of g device) keys n < g.p) × BelowCount g.p counts n → ⊥)
      → OpenAnswered device g key maps owners perm (refused_empty 9 g)
  slice_twice : Accepted device g key maps owners perm
      → (k : ℕ) (top keys counts : List ℕ) → Lowest device key k top → AllUnlocked device g k top keys counts
      → (n : ℕ) → n < (k + 1) * g.p → GoodEntries (map_entries g (header_of g device) keys) g.p counts n
      → (map_entries g (header_of g device) keys n < g.p) × BelowCount g.p counts n
      → (m : ℕ) → m < n → map_entries g (header_of g device) keys m ≡ map_entries g (header_of g device) keys n
      → OpenAnswered device g key maps owners perm (refused_empty 10 g)
  served : Accepted device g key maps owners perm
      → (k : ℕ) (top : List ℕ) (o : OpenOutcome) → Lowest device key k top
      → AllUnlocked device g k top o.session.keys o.session.counts
      → GoodEntries (map_entries g (header_of g device) o.session.keys) g.p o.session.counts ((k + 1) * g.p)
      → o.answer ≡ OpenTo k → OpenAnswered device g key maps owners perm o
