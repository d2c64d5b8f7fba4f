-- Opening (document 01, "Opening"; document 02, P2 and P4): the device is seen through its key cells and headers alone. Assumes nothing.
use Rattle.std.specs.Prelude.{ℕ, zero, suc, ◌+◌, ◌-◌, ◌*◌, ◌/◌, ◌%◌, List, [], ◌∷◌, ◌++◌, Bool, true, false, not, ◌||◌, length, get_or, set, replicate, eqb}
use Rattle.refusals.specs.Numbers.{refuse}
use Rattle.ctr_spec.specs.CounterMode.{ctr}
use Rattle.gcm_spec.specs.Gcm.{Opened, Text, WrongTag, gcm_open}
use Rattle.model.specs.declared.Geometry.{Geometry}
use Rattle.model.specs.declared.Session.{Session}
use Rattle.model.specs.Parts.{choose, part}
use Rattle.model.specs.Geometry.{bad_geometry, bad_count, count_in, device_length, per_block, number_at, cell_of, header_of}
use Rattle.model.specs.Permutation.{bad_permutation}
use Rattle.model.specs.Session.{unmapped, placed, unless, key_in, no_keys, no_counts}
use Rattle.model.specs.Search.{first_free, start_place}

-- ---- the lowest cell that opens

-- Key cell i under the caller's key: IV 12, ciphertext 32, tag 16, associated data the byte i; it holds the VMK.
abbrev pub open_cell : (key : List ℕ) → (i : ℕ) → (cell : List ℕ) → Opened
open_cell key i cell = gcm_open key (part 0 12 cell) (i ∷ []) (part 12 32 cell) (part 44 16 cell)

-- Cell k with its VMK, or none.
pub data Cell : Type 0 where
  At : (k : ℕ) → (vmk : List ℕ) → Cell
  NoCell : Cell

-- Cell i where it opens, else what the rest says.
abbrev pub or_next : Opened → ℕ → Cell → Cell
or_next (Text vmk) i rest = At i vmk
or_next WrongTag i rest = rest

-- The lowest of the cells i, i + 1, .. that opens, left of them.
unfoldable pub first_cell : (key : List ℕ) → (cell : ℕ → List ℕ) → (left i : ℕ) → Cell
first_cell key cell zero i = NoCell
first_cell key cell (suc left) i = or_next (open_cell key i (cell i)) i (first_cell key cell left (suc i))

-- ---- the chain of headers, k down to 0

-- Header i under its VMK: IV 12, ciphertext 72, tag 16, associated data the byte 16 + i.
abbrev pub open_header : (vmk : List ℕ) → (i : ℕ) → (header : List ℕ) → Opened
open_header vmk i header = gcm_open vmk (part 0 12 header) ((16 + i) ∷ []) (part 12 72 header) (part 84 16 header)

-- The 72 bytes of a header: the VEK, the VMK of the volume below, N (document 02, P4), S.
abbrev pub vek_of : List ℕ → List ℕ
vek_of text = part 0 32 text

abbrev pub vmk_below : List ℕ → List ℕ
vmk_below text = part 32 32 text

abbrev pub slice_count : List ℕ → ℕ
slice_count text = number_at 64 text

-- 8: N is 0 or above P, or S differs (document 02, P4).
abbrev pub bad_header : Geometry → (text : List ℕ) → Bool
bad_header g text = bad_count g.p (slice_count text) || not (eqb (number_at 68 text) g.s)

-- The VEKs of volumes 0 to k end to end and their counts, or the refusal 7 or 8.
pub data Chain : Type 0 where
  Keys : (veks counts : List ℕ) → Chain
  Broken : ℕ → Chain

-- One header: 7 where its tag is wrong, 8 where its N or S is, else what follows from its text.
abbrev pub link : Geometry → Opened → (List ℕ → Chain) → Chain
link g WrongTag next = Broken 7
link g (Text text) next = choose (bad_header g text) (Broken 8) (next text)

-- Header n and those below it, where the VEKs and the counts of the volumes above n are known.
unfoldable pub chain : Geometry → (header : ℕ → List ℕ) → (n : ℕ) → (vmk veks counts : List ℕ) → Chain
chain g header zero vmk veks counts =
    link g (open_header vmk zero (header zero)) (λ text. Keys (vek_of text ++ veks) (slice_count text ∷ counts))
chain g header (suc n) vmk veks counts =
    link g (open_header vmk (suc n) (header (suc n)))
    (λ text. chain g header n (vmk_below text) (vek_of text ++ veks) (slice_count text ∷ counts))

-- ---- the maps

-- Entry σ of a header's map blocks, each its IV 16, then its entries in counter mode under the VEK.
unfoldable pub stored_entry : Geometry → (vek header : List ℕ) → (σ : ℕ) → ℕ
stored_entry g vek header σ =
    number_at (4 * (σ % per_block g))
    (ctr vek (part (g.b * (1 + σ / per_block g)) 16 header) (part (g.b * (1 + σ / per_block g) + 16) (g.b - 16) header))

-- The entry at index n of the map table: that of logical slice n % P of volume n / P.
abbrev pub map_entries : Geometry → (header : ℕ → List ℕ) → (keys : List ℕ) → (n : ℕ) → ℕ
map_entries g header keys n = stored_entry g (key_in keys (n / g.p)) (header (n / g.p)) (n % g.p)

-- The tables, or the refusal 9 or 10.
pub data Loaded : Type 0 where
  Tables : (maps owners : List ℕ) → Loaded
  Spoilt : ℕ → Loaded

-- Entry x at index n into the tables so far: the mark changes nothing, 9 where it is at or above P or stands at or past the volume's N
-- (document 02, P4), 10 where it has an owner.
abbrev pub settle : (p : ℕ) → (counts : List ℕ) → (x n : ℕ) → (maps owners : List ℕ) → (List ℕ → List ℕ → Loaded) → Loaded
settle p counts x n maps owners next =
    choose (eqb x unmapped) (next maps owners)
    (choose (placed p (count_in counts (n / p)) (n % p) x)
    (choose (eqb (get_or owners x 0) 0) (next (set maps n x) (set owners x (n / p + 1))) (Spoilt 10))
    (Spoilt 9))

-- The entries from index n on, left of them, into the tables so far.
unfoldable pub load : (p : ℕ) → (counts : List ℕ) → (entries : ℕ → ℕ) → (left n : ℕ) → (maps owners : List ℕ) → Loaded
load p counts entries zero n maps owners = Tables maps owners
load p counts entries (suc left) n maps owners = settle p counts (entries n) n maps owners (load p counts entries left (suc n))

-- Tables that hold nothing: 15 × P marks, and P owners 0.
abbrev pub no_maps : Geometry → List ℕ
no_maps g = replicate (15 * g.p) unmapped

abbrev pub no_owners : Geometry → List ℕ
no_owners g = replicate g.p 0

-- The maps of volumes 0 to k, entry by entry.
abbrev pub load_maps : Geometry → (header : ℕ → List ℕ) → (keys counts : List ℕ) → (k : ℕ) → Loaded
load_maps g header keys counts k = load g.p counts (map_entries g header keys) ((k + 1) * g.p) 0 (no_maps g) (no_owners g)

-- ---- the call

-- 1, 2, 3, 4 and 5, from the lengths of device, key and tables, and the permutation.
unfoldable pub open_refusal : Geometry → (device key maps owners : ℕ) → (perm : List ℕ) → ℕ
open_refusal g device key maps owners perm =
    bad_geometry 1 g
    (refuse (not (eqb device (device_length g))) 2
    (refuse (not (eqb key 32)) 3
    (refuse (not (eqb maps (15 * g.p))) 4
    (refuse (not (eqb owners g.p)) 4
    (bad_permutation g.p perm
    0)))))

-- The answer of an opening: the opened volume, or the refusal.
pub data OpenResult : Type 0 where
  OpenTo : (k : ℕ) → OpenResult
  NotOpened : ℕ → OpenResult

-- What an opening answers, and what it leaves: the tables and the session.
pub record OpenOutcome : Type 0 where
  pub answer : OpenResult
  pub maps : List ℕ
  pub owners : List ℕ
  pub session : Session

-- The session of a refused opening: closed, its numbers and keys 0.
abbrev pub no_session : Session
no_session = record { geometry = record { b = 0; s = 0; p = 0 }; k = 0; keys = no_keys; opened = false; start = 0; counts = no_counts }

-- Refused by 1 to 5: the tables stay.
abbrev pub untouched : (maps owners : List ℕ) → ℕ → OpenOutcome
untouched maps owners n = record { answer = NotOpened n; maps = maps; owners = owners; session = no_session }

-- Refused by 6 to 10: entries are marks and owners 0.
abbrev pub wiped : Geometry → ℕ → OpenOutcome
wiped g n = record { answer = NotOpened n; maps = no_maps g; owners = no_owners g; session = no_session }

-- 15 data keys and 15 counts, 0 above k.
abbrev pub all_keys : (keys : List ℕ) → (k : ℕ) → List ℕ
all_keys keys k = keys ++ replicate (32 * (14 - k)) 0

abbrev pub all_counts : (counts : List ℕ) → (k : ℕ) → List ℕ
all_counts counts k = counts ++ replicate (14 - k) 0

-- The session of a served opening: its start place is the first free place, or P (document 02, P2), its counts are those of the headers
-- (document 02, P4).
abbrev pub open_session : Geometry → (k : ℕ) → (keys counts owners perm : List ℕ) → Session
open_session g k keys counts owners perm =
    record {
      geometry = g;
      k = k;
      keys = keys;
      opened = true;
      start = start_place g.p (first_free owners g.p 0 perm);
      counts = counts;
    }

-- Served, with the tables that were loaded, or 9 or 10.
unfoldable pub with_tables : Geometry → (perm : List ℕ) → (k : ℕ) → (keys counts : List ℕ) → Loaded → OpenOutcome
with_tables g perm k keys counts (Spoilt n) = wiped g n
with_tables g perm k keys counts (Tables maps owners) =
    record { answer = OpenTo k; maps = maps; owners = owners; session = open_session g k keys counts owners perm }

-- From the data keys and the counts, or 7 or 8.
unfoldable pub with_keys : Geometry → (perm : List ℕ) → (header : ℕ → List ℕ) → (k : ℕ) → Chain → OpenOutcome
with_keys g perm header k (Broken n) = wiped g n
with_keys g perm header k (Keys veks counts) =
    with_tables g perm k (all_keys veks k) (all_counts counts k) (load_maps g header (all_keys veks k) (all_counts counts k) k)

-- From the lowest cell that opens, or 6.
unfoldable pub with_cell : Geometry → (perm : List ℕ) → (header : ℕ → List ℕ) → Cell → OpenOutcome
with_cell g perm header NoCell = wiped g 6
with_cell g perm header (At k vmk) = with_keys g perm header k (chain g header k vmk [] [])

-- Opening.
unfoldable pub open_model : (device : List ℕ) → Geometry → (key maps owners perm : List ℕ) → OpenOutcome
open_model device g key maps owners perm =
    unless (open_refusal g (length device) (length key) (length maps) (length owners) perm) (untouched maps owners)
    (with_cell g perm (header_of g device) (first_cell key (cell_of device) 15 0))
