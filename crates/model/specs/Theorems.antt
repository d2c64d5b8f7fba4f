-- What is proved of the definitions by themselves, so that a slip in one of them is refused here. Assumes nothing.
use Rattle.std.specs.Prelude.{ℕ, ◌+◌, ◌-◌, ◌*◌, ◌^◌, ◌≤◌, ◌<◌, ◌≡◌, true, false, List, [], ◌∷◌, ◌++◌, eqb, length, get_or, replicate, take, Ok, Err}
use Rattle.refusals.specs.Numbers.{refusal_number}
use Rattle.refusals.specs.declared.Refusal.{Refusal}
use Rattle.gcm_spec.specs.Gcm.{Text, WrongTag, gcm_text, gcm_tag}
use Rattle.ctr_spec.specs.CounterMode.{ctr}
use Rattle.model.specs.declared.Geometry.{Geometry}
use Rattle.model.specs.declared.Session.{Session}
use Rattle.model.specs.declared.Change.{Change}
use Rattle.model.specs.declared.Change.TheVariants.{Claimed, Rewritten}
use Rattle.model.specs.declared.Search.TheVariants.{Free, Bad, Full}
use Rattle.model.specs.declared.WriteAnswer.TheVariants as write-answer
use Rattle.model.specs.Parts.{choose, part, joined, patched}
use Rattle.model.specs.Geometry.{Allowed, count_in, per_block, map_blocks, header_blocks, device_length, number_at, four_bytes, cell_start, cell_of}
use Rattle.model.specs.Geometry.{header_start, header_of, map_start, slice_start, slice_size, iv_start, block_start}
use Rattle.model.specs.Session.{Held, held, Outcome, LentResult, geometry, key_in, key_of, count_of, block_count, slot, slice_of, offset_of, unmapped, no_keys}
use Rattle.model.specs.Permutation.{place_of}
use Rattle.model.specs.Search.{first_free}
use Rattle.model.specs.Conditions.{slice_at, AllHeld, FirstFree, FirstBad, Names, Shuffles, Drawing}
use Rattle.model.specs.Opening.{At, open_cell, open_header, vek_of, vmk_below, slice_count, first_cell, stored_entry, all_keys, all_counts}
use Rattle.model.specs.Opening.{OpenResult, OpenTo, NotOpened, OpenOutcome}
use Rattle.model.specs.Read.{deciphered, Filled, Refused}
use Rattle.model.specs.Write.{WriteResult, claimed_bytes, claimed, write_model}
use Rattle.model.specs.Release.{ReleaseResult, released, release_model}
use Rattle.model.specs.Maps.{map_block}
use Rattle.model.specs.Close.{CloseResult, close_model}
use Rattle.model.specs.Format.{lower_opens}
use Rattle.model.specs.Shuffle.{ordering, draws, Accepted, run}
use Rattle.model.specs.Answers.{open_result, change_slice, write_result, release_result, close_result, read_number, read_buffer, OpenLeaves}
use Rattle.model.specs.Answers.{Leaves, lent_number, lent_list, lent_position, LentLeaves}

-- ---- where things stand (document 01, "Geometry of a stick")

-- End to end: each thing begins where the one before it ends, and the device ends with the last slice.
pub record LayoutLaws : Type 0 where
  -- A map block is its IV and four bytes for each entry; m of them hold P entries, and one fewer does not.
  pub map_block_lem : (g : Geometry) → Allowed g → 16 + 4 * per_block g ≡ g.b
  pub map_blocks_lem : (g : Geometry) → Allowed g → (g.p ≤ map_blocks g * per_block g) × (map_blocks g * per_block g < g.p + per_block g)
  -- The master block: 16 salt bytes, then cells of 60.
  pub first_cell_lem : cell_start 0 ≡ 16
  pub next_cell : (i : ℕ) → cell_start (i + 1) ≡ cell_start i + 60
  -- Volume headers from block 1 on: one block, then m map blocks.
  pub first_header : (g : Geometry) → header_start g 0 ≡ g.b
  pub first_map : (g : Geometry) (i : ℕ) → map_start g i ≡ header_start g i + g.b
  pub next_header : (g : Geometry) (i : ℕ) → header_start g (i + 1) ≡ map_start g i + g.b * map_blocks g
  -- Slices behind 15 headers, which are H blocks with the master block: an IV block, then S data blocks.
  pub headers_end : (g : Geometry) → header_start g 15 ≡ g.b * header_blocks g
  pub first_slice : (g : Geometry) → slice_start g 0 ≡ header_start g 15
  pub iv : (g : Geometry) (ψ j : ℕ) → iv_start g ψ j ≡ slice_start g ψ + 16 * j
  pub first_block : (g : Geometry) (ψ : ℕ) → block_start g ψ 0 ≡ slice_start g ψ + g.b
  pub next_block : (g : Geometry) (ψ j : ℕ) → block_start g ψ (j + 1) ≡ block_start g ψ j + g.b
  pub next_slice : (g : Geometry) (ψ : ℕ) → slice_start g (ψ + 1) ≡ block_start g ψ g.s
  pub slice_size_lem : (g : Geometry) (ψ : ℕ) → slice_start g ψ + slice_size g ≡ slice_start g (ψ + 1)
  pub device_end : (g : Geometry) → device_length g ≡ slice_start g g.p
  -- The data keys of a session, 32 bytes each from volume 0 up.
  pub key : (s : Session) (lower own upper : List ℕ) (i : ℕ) → s.keys ≡ lower ++ (own ++ upper) → length lower ≡ 32 * i → length own ≡ 32
      → key_of s i ≡ own
  -- The map table row by row, and the blocks of a volume slice by slice.
  pub first_slot : (g : Geometry) → slot g 0 0 ≡ 0
  pub next_slot : (g : Geometry) (i σ : ℕ) → slot g i (σ + 1) ≡ slot g i σ + 1
  pub next_row : (g : Geometry) (i : ℕ) → slot g (i + 1) 0 ≡ slot g i g.p
  pub address : (g : Geometry) (σ j : ℕ) → j < g.s → (slice_of g (σ * g.s + j) ≡ σ) × (offset_of g (σ * g.s + j) ≡ j)
  -- They are the blocks of its own N logical slices (document 02, P4).
  pub blocks : (s : Session) (i σ j : ℕ) → j < s.geometry.s → σ < count_of s i → σ * s.geometry.s + j < block_count s i
  pub within : (s : Session) (i a : ℕ) → 1 ≤ s.geometry.s → a < block_count s i → slice_of s.geometry a < count_of s i

-- ---- what is sealed opens (document 01, "Master block", "Volume header", "Slice")

-- The 72 bytes of a header's text: the VEK, the VMK of the volume below, N, S.
pub record HeaderText (text vek below : List ℕ) (n s : ℕ) : Type 0 where
  pub first : vek_of text ≡ vek
  pub second : vmk_below text ≡ below
  pub third : slice_count text ≡ n
  pub fourth : number_at 68 text ≡ s

-- From a place on a device holds a text sealed under a key, with the byte i as associated data: IV 12, ciphertext n, tag 16.
pub record Sealed (key : List ℕ) (i at n : ℕ) (device text : List ℕ) : Type 0 where
  pub cipher : part (at + 12) n device ≡ gcm_text key (part at 12 device) text
  pub tag : part (at + 12 + n) 16 device ≡ gcm_tag key (part at 12 device) (i ∷ []) (part (at + 12) n device)

-- What stands on a device as the document lays it out opens, or deciphers, to what was put there, and nothing else opens.
pub record SealingLaws : Type 0 where
  -- Key cell i: the VMK under the caller's key, with the byte i.
  pub cell : (device key vmk : List ℕ) (i : ℕ) → Sealed key i (cell_start i) 32 device vmk → open_cell key i (cell_of device i) ≡ Text vmk
  pub cell_alone : (device key vmk : List ℕ) (i : ℕ) → open_cell key i (cell_of device i) ≡ Text vmk → Sealed key i (cell_start i) 32 device vmk
  -- Volume header i: its text of 72 bytes under the VMK, with the byte 16 + i; the rest of its first block is ignored.
  pub header : (g : Geometry) → Allowed g → (device vmk text : List ℕ) (i : ℕ) → Sealed vmk (16 + i) (header_start g i) 72 device text
      → open_header vmk i (header_of g device i) ≡ Text text
  pub header_alone : (g : Geometry) → Allowed g → (device vmk text : List ℕ) (i : ℕ) → open_header vmk i (header_of g device i) ≡ Text text
      → Sealed vmk (16 + i) (header_start g i) 72 device text
  pub header_text : (vek below : List ℕ) (n s : ℕ) → length vek ≡ 32 → length below ≡ 32 → n < 256 ^ 4 → s < 256 ^ 4
      → HeaderText (vek ++ (below ++ (four_bytes n ++ four_bytes s))) vek below n s
  -- Map block t of header i: IV, then its entries of four bytes in counter mode under the VEK.
  pub entry : (g : Geometry) → Allowed g → (device vek iv : List ℕ) (entries : ℕ → ℕ) (i t e : ℕ)
      → t < map_blocks g → e < per_block g → length iv ≡ 16 → entries e < 256 ^ 4
      → part (map_start g i + g.b * t) g.b device ≡ iv ++ ctr vek iv (joined (per_block g) (λ n. four_bytes (entries n)))
      → stored_entry g vek (header_of g device i) (t * per_block g + e) ≡ entries e
  -- Data block j of slice ψ: its IV in the IV block, and the block in counter mode under the VEK.
  pub block : (g : Geometry) (device vek iv text : List ℕ) (ψ j : ℕ) → ψ < g.p
      → part (iv_start g ψ j) 16 device ≡ iv → part (block_start g ψ j) g.b device ≡ ctr vek iv text → deciphered g vek ψ j device ≡ text

-- ---- what contracts read off an answer

-- The contract of a write, a release or a close fixes the answer, the device and all that is held afterwards.
abbrev pub LeavesAll : (A : Type 0) → Type 0
LeavesAll A = (o : Outcome A) (before : List ℕ) (answer : A) (device maps owners : List ℕ) (position : ℕ) (s : Session)
    → Leaves A o before answer device maps owners position s
    → (answer ≡ o.answer) × (device ≡ patched o.patches before) × (held maps owners position s ≡ o.held)

-- No number, volume, slice, count, buffer, table, position or session is dropped.
pub record AnswerLaws : Type 0 where
  pub open_served : (k : ℕ) → open_result (Ok k) ≡ OpenTo k
  pub open_refused : (r : Refusal) → open_result (Err r) ≡ NotOpened (refusal_number r)
  pub open_leaves : (o : OpenOutcome) (answer : OpenResult) (maps owners : List ℕ) (s : Session) → OpenLeaves o answer maps owners s
      → o ≡ record { answer = answer; maps = maps; owners = owners; session = s }
  pub read_served : (bytes old : List ℕ) → (read_number (Filled bytes) ≡ 0) × (read_buffer (Filled bytes) old ≡ bytes)
  pub read_refused : (n : ℕ) (old : List ℕ) → (read_number (Refused n) ≡ n) × (read_buffer (Refused n) old ≡ old)
  pub claimed_slice : (ψ : ℕ) → change_slice (Claimed ψ) ≡ ψ
  pub rewritten_slice : (ψ : ℕ) → change_slice (Rewritten ψ) ≡ ψ
  pub write_served : (change : Change) (probes : ℕ) → write_result (write-answer.Served change probes) ≡ WriteResult.Served change probes
  pub write_refused : (r : Refusal) (probes : ℕ) → write_result (write-answer.Refused r probes) ≡ WriteResult.Refused (refusal_number r) probes
  pub write_leaves : LeavesAll WriteResult
  pub release_served : (ψ : ℕ) → release_result (Ok ψ) ≡ ReleaseResult.Freed ψ
  pub release_refused : (r : Refusal) → release_result (Err r) ≡ ReleaseResult.Refused (refusal_number r)
  pub release_leaves : LeavesAll ReleaseResult
  pub close_served : (u : Unit) → close_result (Ok u) ≡ CloseResult.Closed
  pub close_refused : (r : Refusal) → close_result (Err r) ≡ CloseResult.Refused (refusal_number r)
  pub close_leaves : LeavesAll CloseResult
  pub lent_served : (made old : List ℕ) (after position : ℕ)
      → (lent_number (LentResult.Served made after) ≡ 0) × (lent_list (LentResult.Served made after) old ≡ made)
      × (lent_position (LentResult.Served made after) position ≡ after)
  pub lent_refused : (n : ℕ) (old : List ℕ) (position : ℕ)
      → (lent_number (LentResult.Refused n) ≡ n) × (lent_list (LentResult.Refused n) old ≡ old)
      × (lent_position (LentResult.Refused n) position ≡ position)
  pub lent_leaves : (r : LentResult) (old : List ℕ) (position n : ℕ) (list : List ℕ) (after : ℕ) → LentLeaves r old position n list after
      → (n ≡ lent_number r) × (list ≡ lent_list r old) × (after ≡ lent_position r position)

-- ---- what calls find, write and leave

pub record ModelLaws : Type 0 where
  -- The cell that an opening takes opens, and no lower one does.
  pub lowest : (key : List ℕ) (cell : ℕ → List ℕ) (k : ℕ) (vmk : List ℕ) → first_cell key cell 15 0 ≡ At k vmk
      → (open_cell key k (cell k) ≡ Text vmk) × ((i : ℕ) → i < k → open_cell key i (cell i) ≡ WrongTag)
  -- The words for the end of a search say what the search finds, and none of them says less.
  pub free_found : (owners : List ℕ) (p : ℕ) (perm : List ℕ) (start n : ℕ) → FirstFree owners p perm start n
      → first_free owners p start perm ≡ Free (slice_at perm n) n
  pub bad_found : (owners : List ℕ) (p : ℕ) (perm : List ℕ) (start n : ℕ) → FirstBad owners p perm start n
      → first_free owners p start perm ≡ Bad n
  pub none_found : (owners : List ℕ) (p : ℕ) (perm : List ℕ) (start : ℕ) → start ≤ length perm → AllHeld owners p perm start (length perm)
      → first_free owners p start perm ≡ Full
  -- Whether a key opens a cell below its own: one that does, or every key is shut out of every lower cell.
  pub lower_opens_lem : (keys : List ℕ) (cell : ℕ → List ℕ) (n : ℕ) → lower_opens keys cell n ≡ true
      → (i : ℕ) × (j : ℕ) × (vmk : List ℕ) × (j < i) × (i < n) × (open_cell (key_in keys i) j (cell j) ≡ Text vmk)
  pub lower_shut : (keys : List ℕ) (cell : ℕ → List ℕ) (n : ℕ) → lower_opens keys cell n ≡ false
      → (i j : ℕ) → j < i → i < n → open_cell (key_in keys i) j (cell j) ≡ WrongTag
  -- The data keys of an opening to volume k are 15 times 32 bytes, those above k zeros; no key at all is 480 zeros.
  pub keys_above : (keys : List ℕ) (k : ℕ) → length keys ≡ 32 * (k + 1) → k < 15
      → (length (all_keys keys k) ≡ 480) × ((i : ℕ) → k < i → i < 15 → key_in (all_keys keys k) i ≡ replicate 32 0)
  pub no_keys_lem : no_keys ≡ replicate 480 0
  -- The counts of an opening to volume k are 15: those of its headers, and zeros above k.
  pub counts_above : (counts : List ℕ) (k : ℕ) → length counts ≡ k + 1 → k < 15
      → (length (all_counts counts k) ≡ 15) × ((i : ℕ) → i ≤ k → count_in (all_counts counts k) i ≡ count_in counts i)
      × ((i : ℕ) → k < i → i < 15 → count_in (all_counts counts k) i ≡ 0)
  -- A claimed slice begins with its IV block; every data block deciphers under its IV to zeros, but for the block that was asked for.
  pub claimed_ivs : (b s : ℕ) (key ivs : List ℕ) (j : ℕ) (text : List ℕ) → length ivs ≡ b → part 0 b (claimed_bytes b s key ivs j text) ≡ ivs
  pub claimed_block_lem : (b s : ℕ) (key ivs : List ℕ) (j : ℕ) (text : List ℕ) (n : ℕ) → length ivs ≡ b → 16 * s ≤ b → length text ≡ b → n < s
      → ctr key (part (16 * n) 16 (claimed_bytes b s key ivs j text)) (part (b + n * b) b (claimed_bytes b s key ivs j text))
      ≡ choose (eqb n j) text (replicate b 0)
  -- A claim leaves its slice owned by its volume.
  pub claimed_owner : (h : Held) (i σ j ψ place : ℕ) (text tape : List ℕ) → ψ < length h.owners
      → get_or (claimed h i σ j ψ place text tape).held.owners ψ 0 ≡ i + 1
  -- The place of a slice in a permutation that names each: it names the slice, and no other place does.
  pub place : (p : ℕ) (perm : List ℕ) (ψ : ℕ) → Names p perm → ψ < p
      → (place_of ψ perm < p) × (slice_at perm (place_of ψ perm) ≡ ψ) × ((n : ℕ) → n < p → slice_at perm n ≡ ψ → n ≡ place_of ψ perm)
  -- A release leaves its entry unmapped and its slice free, and every other entry and owner as it was.
  pub released_entry : (h : Held) (i σ ψ place : ℕ) (tape : List ℕ) (n : ℕ) → n < length h.maps
      → get_or (released h i σ ψ place tape).held.maps n 0 ≡ choose (eqb n (slot (geometry h) i σ)) unmapped (get_or h.maps n 0)
  pub released_owner : (h : Held) (i σ ψ place : ℕ) (tape : List ℕ) (φ : ℕ) → φ < length h.owners
      → get_or (released h i σ ψ place tape).held.owners φ 0 ≡ choose (eqb φ ψ) 0 (get_or h.owners φ 0)
  -- A call that is refused stores nothing and leaves all that is held; but a write's 22 moves the start place (document 02, P2).
  pub write_refused : (device : ℕ) (h : Held) (i a : ℕ) (text perm tape : List ℕ) (n probes : ℕ)
      → (write_model device h i a text perm tape).answer ≡ WriteResult.Refused n probes
      → ((write_model device h i a text perm tape).patches ≡ []) × ((n ≡ 22 → ⊥) → (write_model device h i a text perm tape).held ≡ h)
  pub release_refused : (device : ℕ) (h : Held) (i σ : ℕ) (perm tape : List ℕ) (n : ℕ)
      → (release_model device h i σ perm tape).answer ≡ ReleaseResult.Refused n
      → ((release_model device h i σ perm tape).patches ≡ []) × ((release_model device h i σ perm tape).held ≡ h)
  pub close_refused : (device : ℕ) (h : Held) (n : ℕ) → (close_model device h).answer ≡ CloseResult.Refused n
      → ((close_model device h).patches ≡ []) × ((close_model device h).held ≡ h)
  -- A refused write leaves tables and tape position, also by 22.
  pub write_kept : (device : ℕ) (h : Held) (i a : ℕ) (text perm tape : List ℕ) (n probes : ℕ)
      → (write_model device h i a text perm tape).answer ≡ WriteResult.Refused n probes
      → ((write_model device h i a text perm tape).held.maps ≡ h.maps) × ((write_model device h i a text perm tape).held.owners ≡ h.owners)
      × ((write_model device h i a text perm tape).held.position ≡ h.position)
  -- The ordering of draws names each slice, and is what the exchanges make of the slices in order.
  pub ordering_names : (p : ℕ) (ds : List ℕ) → Names p (ordering p ds)
  pub ordering_shuffles : (p : ℕ) (ds : List ℕ) → length ds ≡ p - 1 → Shuffles p ds (ordering p ds)
  -- The accepted draws of a run are those that the words for them give, whatever stands behind them on the tape.
  pub run_drawn : (i : ℕ) (tape ds : List ℕ) (n : ℕ) → run i (draws tape) ≡ Accepted ds n
      → (2 * n ≤ length tape) × Drawing i (take (2 * n) tape) ds
  pub drawing_run : (i : ℕ) (bytes ds rest : List ℕ) → Drawing i bytes ds
      → (n : ℕ) × (length bytes ≡ 2 * n) × (run i (draws (bytes ++ rest)) ≡ Accepted ds n)
  -- Map block t of volume i begins with its IV; each of its entries deciphers to that of row i, the mark past the last.
  pub map_block_lem : (maps : List ℕ) (g : Geometry) → Allowed g → (vek iv : List ℕ) (i t e : ℕ)
      → i * g.p + g.p ≤ length maps → length iv ≡ 16 → e < per_block g
      → get_or (part (i * g.p) g.p maps) (t * per_block g + e) unmapped < 256 ^ 4
      → (part 0 16 (map_block maps g vek i t iv) ≡ iv)
      × (number_at (4 * e) (ctr vek iv (part 16 (g.b - 16) (map_block maps g vek i t iv)))
      ≡ get_or (part (i * g.p) g.p maps) (t * per_block g + e) unmapped)
