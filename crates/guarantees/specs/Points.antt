-- The three points (README.md, "What is proved"), as statements about the model. Assumes nothing.
use Rattle.std.specs.Prelude.{ℕ, ◌+◌, ◌-◌, ◌*◌, ◌≤◌, ◌<◌, ◌≡◌, ◌⊎◌, List, [], true, length, get_or, replicate}
use Rattle.ctr_spec.specs.CounterMode.{ctr}
use Rattle.model.specs.declared.Geometry.{Geometry}
use Rattle.model.specs.declared.Session.{Session}
use Rattle.model.specs.declared.Change.TheVariants.{Claimed, Rewritten}
use Rattle.model.specs.Parts.{part, patched}
use Rattle.model.specs.Geometry.{Allowed, count_in, device_length, cell_of, header_of, slice_start, slice_size}
use Rattle.model.specs.Session.{Held, held, LentResult, geometry, key_in, key_of, count_of, entry, entry_of, slice_of, offset_of, unmapped}
use Rattle.model.specs.Conditions.{CountFits, Counted, TablesFit, Enough, AllHeld, FirstFree, Names, slice_at, Shuffles, DrawnFrom}
use Rattle.model.specs.Opening.{OpenOutcome, OpenTo, open_model, stored_entry}
use Rattle.model.specs.Read.{ReadResult, Filled, read_model, find_model, deciphered}
use Rattle.model.specs.Write.{WriteResult, write_model}
use Rattle.model.specs.Release.{ReleaseResult, release_model}
use Rattle.model.specs.Close.{CloseResult, close_model}
use Rattle.model.specs.Format.{format_model}
use Rattle.model.specs.Shuffle.{shuffle_model}
use Rattle.guarantees.specs.Runs.{State, Call, Writing, Writes, outcome, final, events, positions, written_by_all, Within}
use Rattle.guarantees.specs.Rules.{First, read_rules, write_rules, release_rules, close_rules, format_tape, shuffle_rules, SearchEnds, FreeAt, probes_at}
use Rattle.guarantees.specs.Rules.{held_entry, table_entry, iv_in, block_in}
use Rattle.guarantees.specs.Openings.{Lowest, Unlocked, OpenAnswered}
use Rattle.guarantees.specs.Making.{FormatAnswered}
use Rattle.guarantees.specs.Effects.{held_after_all, stored_by_all, Follows}
use Rattle.guarantees.specs.Arrays.{Arrays, arrays_after_all, AllDue}

-- ---- point 1: any arguments

-- A read is served with the block deciphered under its IV, or zeros where it is unmapped, or refused by the first rule that
-- applies.
pub data ReadAnswered (device maps owners : List ℕ) (s : Session) (i a room : ℕ) : ReadResult → Type 0 where
  mapped : First (read_rules (length device) maps owners s i a room) 0 0 → entry_of maps s.geometry i a < s.geometry.p
      → ReadAnswered device maps owners s i a room
      (Filled (ctr (key_of s i) (iv_in device s.geometry (entry_of maps s.geometry i a) a)
      (block_in device s.geometry (entry_of maps s.geometry i a) a)))
  zeros : First (read_rules (length device) maps owners s i a room) 0 0 → entry_of maps s.geometry i a ≡ unmapped
      → ReadAnswered device maps owners s i a room (Filled (replicate s.geometry.b 0))
  refused : (n : ℕ) → (n ≡ 0 → ⊥) → First (read_rules (length device) maps owners s i a room) n 0
      → ReadAnswered device maps owners s i a room (ReadResult.Refused n)

-- A find gives the stored block, and nothing where it is unmapped or a read with a right buffer is refused.
pub data FindAnswered (device maps owners : List ℕ) (s : Session) (i a : ℕ) : List ℕ → Type 0 where
  mapped : First (read_rules (length device) maps owners s i a s.geometry.b) 0 0 → entry_of maps s.geometry i a < s.geometry.p
      → FindAnswered device maps owners s i a (block_in device s.geometry (entry_of maps s.geometry i a) a)
  nowhere : First (read_rules (length device) maps owners s i a s.geometry.b) 0 0 → entry_of maps s.geometry i a ≡ unmapped
      → FindAnswered device maps owners s i a []
  refused : (n : ℕ) → (n ≡ 0 → ⊥) → First (read_rules (length device) maps owners s i a s.geometry.b) n 0
      → FindAnswered device maps owners s i a []

-- A write rewrites the slice that is mapped, with 0 places looked at, or claims the slice at the first free place from the start place
-- on, with the places from there up to it; or it is refused by the first rule that applies, with the places looked at. place is where
-- its search would end.
pub data WriteAnswered (device : ℕ) (h : Held) (i a : ℕ) (text perm tape : List ℕ) : WriteResult → Type 0 where
  rewritten : (place : ℕ) → SearchEnds h perm place → First (write_rules device h i a text perm tape place) 0 0
      → held_entry h i a < (geometry h).p → WriteAnswered device h i a text perm tape (WriteResult.Served (Rewritten (held_entry h i a)) 0)
  claimed : (place : ℕ) → FreeAt h perm place → First (write_rules device h i a text perm tape place) 0 0
      → held_entry h i a ≡ unmapped
      → WriteAnswered device h i a text perm tape (WriteResult.Served (Claimed (slice_at perm place)) (probes_at h place))
  refused : (place n probes : ℕ) → (n ≡ 0 → ⊥) → SearchEnds h perm place
      → First (write_rules device h i a text perm tape place) n probes → WriteAnswered device h i a text perm tape (WriteResult.Refused n probes)

-- A release is served with the slice that the entry names, or refused by the first rule that applies.
pub data ReleaseAnswered (device : ℕ) (h : Held) (i σ : ℕ) (perm tape : List ℕ) : ReleaseResult → Type 0 where
  served : First (release_rules device h i σ perm (length tape)) 0 0
      → ReleaseAnswered device h i σ perm tape (ReleaseResult.Freed (table_entry h i σ))
  refused : (n : ℕ) → (n ≡ 0 → ⊥) → First (release_rules device h i σ perm (length tape)) n 0
      → ReleaseAnswered device h i σ perm tape (ReleaseResult.Refused n)

-- A close is served, or refused by the first rule that applies.
pub data CloseAnswered (device : ℕ) (h : Held) : CloseResult → Type 0 where
  served : First (close_rules device h) 0 0 → CloseAnswered device h CloseResult.Closed
  refused : (n : ℕ) → (n ≡ 0 → ⊥) → First (close_rules device h) n 0 → CloseAnswered device h (CloseResult.Refused n)

-- A shuffle of a list of so many places is served with the ordering that its accepted draws make of the slices 0 to P - 1, and the
-- position after the last byte of them, or refused by the first rule that applies. Draws that are thrown away have no other influence.
pub data ShuffleAnswered (g : Geometry) (list : ℕ) (tape : List ℕ) (position : ℕ) : LentResult → Type 0 where
  served : First (shuffle_rules g list tape position) 0 0 → (accepted : List ℕ) (n : ℕ) → DrawnFrom tape position (g.p - 1) accepted n
      → (perm : List ℕ) → Shuffles g.p accepted perm → ShuffleAnswered g list tape position (LentResult.Served perm (position + n))
  refused : (r : ℕ) → (r ≡ 0 → ⊥) → First (shuffle_rules g list tape position) r 0
      → ShuffleAnswered g list tape position (LentResult.Refused r)

pub record Point1 : Type 0 where
  -- The answer of each call, from any arguments; an opening with the tables and the session that it leaves.
  pub opens : (device : List ℕ) (g : Geometry) (key maps owners perm : List ℕ)
      → OpenAnswered device g key maps owners perm (open_model device g key maps owners perm)
  pub reads : (device maps owners : List ℕ) (s : Session) (i a room : ℕ)
      → ReadAnswered device maps owners s i a room (read_model device maps owners s i a room)
  pub finds : (device maps owners : List ℕ) (s : Session) (i a : ℕ)
      → FindAnswered device maps owners s i a (find_model device maps owners s i a)
  pub writes : (device : ℕ) (h : Held) (i a : ℕ) (text perm tape : List ℕ)
      → WriteAnswered device h i a text perm tape (write_model device h i a text perm tape).answer
  pub releases : (device : ℕ) (h : Held) (i σ : ℕ) (perm tape : List ℕ)
      → ReleaseAnswered device h i σ perm tape (release_model device h i σ perm tape).answer
  pub closes : (device : ℕ) (h : Held) → CloseAnswered device h (close_model device h).answer
  pub formats : (device : ℕ) (g : Geometry) (n : ℕ) (keys counts tape : List ℕ) (position : ℕ)
      → FormatAnswered device g n keys counts tape position (format_model device g n keys counts tape position)
  pub shuffles : (g : Geometry) (list : ℕ) (tape : List ℕ) (position : ℕ)
      → ShuffleAnswered g list tape position (shuffle_model g list tape position)
  -- What each request stores and leaves, in any session, also one that no opening gave. Refused, it changes nothing, with one exception:
  -- a 22 moves the session's start place to P (document 02, P2).
  pub follows : (st : State) (c : Call) → Follows st.held (outcome st c)

-- ---- a served opening

-- What an opening is handed beside the device, with the tape position of the run that it starts; and the lent tables, with
-- whatever they hold.
pub record Handed : Type 0 where
  pub geometry : Geometry
  pub key : List ℕ
  pub perm : List ℕ
  pub position : ℕ

pub record Lent : Type 0 where
  pub maps : List ℕ
  pub owners : List ℕ

abbrev pub opens : List ℕ → Handed → Lent → OpenOutcome
opens device x l = open_model device x.geometry x.key l.maps l.owners x.perm

-- What is held after it, and the state in which the list of calls begins.
abbrev pub holds : List ℕ → Handed → Lent → Held
holds device x l = held (opens device x l).maps (opens device x l).owners x.position (opens device x l).session

abbrev pub begin : List ℕ → Handed → Lent → State
begin device x l = record { device = device; held = holds device x l }

-- ---- what stands on the device

-- Entry σ of header i's map on a device, deciphered under the VEK that a session holds.
abbrev pub map_on : List ℕ → Geometry → Session → (i σ : ℕ) → ℕ
map_on device g s i σ = stored_entry g (key_of s i) (header_of g device i) σ

-- The same under the VEK of the session that an opening of the device gives.
abbrev pub map_entry : List ℕ → Handed → Lent → (i σ : ℕ) → ℕ
map_entry device x l i σ = map_on device x.geometry (opens device x l).session i σ

-- At first each block is what the volume's map and slices decipher to, zeros where unmapped.
abbrev pub first_arrays : List ℕ → Handed → Lent → Arrays
first_arrays device x l i a =
    deciphered x.geometry (key_of (opens device x l).session i) (map_entry device x l i (slice_of x.geometry a)) (offset_of x.geometry a) device

-- Header i maps slice ψ: one of its entries 0 to P - 1 is the slice's number.
abbrev pub Maps : (entries : ℕ → ℕ → ℕ) → (p i ψ : ℕ) → Type 0
Maps entries p i ψ = (σ : ℕ) × (σ < p) × (entries i σ ≡ ψ)

-- The start place is the first free place of a permutation, or P where none is free (document 02, P2).
abbrev pub StartsAt : (owners : List ℕ) → (p : ℕ) → (perm : List ℕ) → (start : ℕ) → Type 0
StartsAt owners p perm start = FirstFree owners p perm 0 start ⊎ (AllHeld owners p perm 0 p × (start ≡ p))

-- What a served opening leaves: an open session with its start place, and the tables of these entries.
pub record Opens (x : Handed) (k : ℕ) (entries : ℕ → ℕ → ℕ) (h : Held) : Type 0 where
  pub opened : h.session.opened ≡ true
  pub same : geometry h ≡ x.geometry
  pub top : h.session.k ≡ k
  pub position : h.position ≡ x.position
  pub keys_long : length h.session.keys ≡ 480
  pub keys_above : (i : ℕ) → k < i → i < 15 → key_of h.session i ≡ replicate 32 0
  pub counts_long : length h.session.counts ≡ 15
  pub counts_above : (i : ℕ) → k < i → i < 15 → count_of h.session i ≡ 0
  pub maps_long : length h.maps ≡ 15 * x.geometry.p
  pub owners_long : length h.owners ≡ x.geometry.p
  pub mapped : (i σ : ℕ) → i ≤ k → σ < x.geometry.p → entry h.maps (geometry h) i σ ≡ entries i σ
  pub above : (i σ : ℕ) → k < i → i < 15 → σ < x.geometry.p → entry h.maps (geometry h) i σ ≡ unmapped
  pub owner : (i ψ : ℕ) → i ≤ k → ψ < x.geometry.p → Maps entries x.geometry.p i ψ → get_or h.owners ψ 0 ≡ i + 1
  pub free : (ψ : ℕ) → ψ < x.geometry.p → ((i : ℕ) → i ≤ k → Maps entries x.geometry.p i ψ → ⊥) → get_or h.owners ψ 0 ≡ 0
  pub start : StartsAt h.owners x.geometry.p x.perm h.session.start

-- ---- point 2: one run

-- An opening to volume k that gives these counts and these arrays, of N × S blocks each.
pub record Reopens (device : List ℕ) (y : Handed) (l : Lent) (k : ℕ) (counts : List ℕ) (arrays : Arrays) : Type 0 where
  pub served : (opens device y l).answer ≡ OpenTo k
  pub counted : (opens device y l).session.counts ≡ counts
  pub same : (i a : ℕ) → i ≤ k → a < count_in counts i * y.geometry.s → first_arrays device y l i a ≡ arrays i a

pub record Run (s : List ℕ) (x : Handed) (l : Lent) (k : ℕ) (cs : List Call) : Type 0 where
  -- Every answer is the one that the arrays give, and what is held follows from the answers.
  pub due : AllDue x.geometry (first_arrays s x l) (begin s x l) cs
  pub held : (final (begin s x l) cs).held ≡ held_after_all (holds s x l) (events (begin s x l) cs)
  -- The device is the first one with what the calls store in order, and is its own but for the written places.
  pub stored : (final (begin s x l) cs).device ≡ patched (stored_by_all (holds s x l) (events (begin s x l) cs)) s
  pub kept : (p : ℕ) → (Within p (written_by_all x.geometry (events (begin s x l) cs)) → ⊥)
      → get_or (final (begin s x l) cs).device p 0 ≡ get_or s p 0
  -- While the session is open the maps on the device, deciphered under the VEKs, are the maps held (document 02, P7).
  pub on_device_lem : (final (begin s x l) cs).held.session.opened ≡ true → (i σ : ℕ) → i ≤ k → σ < x.geometry.p
      → map_on (final (begin s x l) cs).device x.geometry (opens s x l).session i σ
      ≡ entry (final (begin s x l) cs).held.maps x.geometry i σ
  -- Dropped here, or closed by one of the calls, and opened again with the same key, any permutation that names each slice and any tables
  -- of the right lengths: served, with the same k, counts and arrays (document 02, P7).
  pub again : (y : Handed) (l' : Lent) → y.geometry ≡ x.geometry → y.key ≡ x.key
      → Names y.geometry.p y.perm → TablesFit y.geometry (length l'.maps) (length l'.owners)
      → Reopens (final (begin s x l) cs).device y l' k (holds s x l).session.counts
      (arrays_after_all x.geometry (first_arrays s x l) (events (begin s x l) cs))

-- ---- point 3: two runs

-- The bytes of slice ψ.
abbrev pub slice_bytes : Geometry → List ℕ → ℕ → List ℕ
slice_bytes g device ψ = part (slice_start g ψ) (slice_size g) device

-- Devices of one length that agree on the cells and headers up to k and on every slice that those headers map.
pub record Agree (s t : List ℕ) (x : Handed) (l : Lent) (k : ℕ) : Type 0 where
  pub long : length s ≡ length t
  pub cells : (i : ℕ) → i ≤ k → cell_of s i ≡ cell_of t i
  pub headers : (i : ℕ) → i ≤ k → header_of x.geometry s i ≡ header_of x.geometry t i
  pub slices : (i ψ : ℕ) → i ≤ k → ψ < x.geometry.p → Maps (map_entry s x l) x.geometry.p i ψ
      → slice_bytes x.geometry s ψ ≡ slice_bytes x.geometry t ψ

-- Two runs of one list: equal answers, tape positions, tables and session, and equal bytes where they wrote.
pub record EqualRuns (st st' : State) (cs : List Call) : Type 0 where
  pub same_events : events st cs ≡ events st' cs
  pub same_positions : positions st cs ≡ positions st' cs
  pub same_held : (final st cs).held ≡ (final st' cs).held
  pub written : (p : ℕ) → Within p (written_by_all (geometry st.held) (events st cs))
      → get_or (final st cs).device p 0 ≡ get_or (final st' cs).device p 0

-- ---- points 2 and 3, of a served opening

pub record Guarantee (s : List ℕ) (x : Handed) (l : Lent) (k : ℕ) : Type 0 where
  -- Cell k is the lowest that opens, and the session's data keys and counts are the VEKs and the N of headers k down to 0.
  pub vmk : List ℕ
  pub lowest : Lowest s x.key k vmk
  pub keys : (i : ℕ) → i ≤ k → Unlocked s x.geometry k vmk i (key_of (opens s x l).session i) (count_of (opens s x l).session i)
  -- The opening leaves the tables of the maps on the device.
  pub leaves : Opens x k (map_entry s x l) (holds s x l)
  -- Point 2.
  pub array : (cs : List Call) → Run s x l k cs
  -- Point 3.
  pub twin : (t : List ℕ) (l' : Lent) → Agree s t x l k → length l'.maps ≡ length l.maps → length l'.owners ≡ length l.owners
      → ((opens t x l').answer ≡ OpenTo k) × ((cs : List Call) → EqualRuns (begin s x l) (begin t x l') cs × Run t x l' k cs)

abbrev pub Points23 : Type 0
Points23 = (s : List ℕ) (x : Handed) (l : Lent) (k : ℕ) → (opens s x l).answer ≡ OpenTo k → Guarantee s x l k

-- ---- formatting: points 2 and 3 for sessions opened afterwards

-- An opening to volume i finds these counts, nothing mapped and nothing owned, and the N × S blocks of each volume 0 to i are zeros.
pub record Blank (made : List ℕ) (x : Handed) (l : Lent) (i : ℕ) (counts : List ℕ) : Type 0 where
  pub served : (opens made x l).answer ≡ OpenTo i
  pub maps : (opens made x l).maps ≡ replicate (15 * x.geometry.p) unmapped
  pub owners : (opens made x l).owners ≡ replicate x.geometry.p 0
  pub counted : (j : ℕ) → j ≤ i → count_of (opens made x l).session j ≡ count_in counts j
  pub zeros : (j a : ℕ) → j ≤ i → a < count_in counts j * x.geometry.s → first_arrays made x l j a ≡ replicate x.geometry.b 0

-- A device that was formatted with n keys and a count for each, opened with key i below n, a permutation that names each slice and tables
-- of the right lengths.
pub record FormattedFor (made : List ℕ) (x : Handed) (l : Lent) (i : ℕ) : Type 0 where
  pub device : ℕ
  pub n : ℕ
  pub keys : List ℕ
  pub counts : List ℕ
  pub tape : List ℕ
  pub position : ℕ
  pub after : ℕ
  pub formatted : format_model device x.geometry n keys counts tape position ≡ LentResult.Served made after
  pub below : i < n
  pub key : x.key ≡ key_in keys i
  pub names : Names x.geometry.p x.perm
  pub tables : TablesFit x.geometry (length l.maps) (length l.owners)

-- The device opens with key i to volumes 0 to i, each of its own N × S blocks, all zero (document 02, P4).
abbrev pub FormattedOpens : Type 0
FormattedOpens = (made : List ℕ) (x : Handed) (l : Lent) (i : ℕ) (f : FormattedFor made x l i) → Blank made x l i f.counts

-- From making to reading: over every list of calls each volume is an array that begins with zeros, and points 2 and 3 hold.
pub record FromMaking (made : List ℕ) (x : Handed) (l : Lent) (i : ℕ) : Type 0 where
  pub due : (cs : List Call) → AllDue x.geometry (λ j a. replicate x.geometry.b 0) (begin made x l) cs
  pub guarantee : Guarantee made x l i

-- What is handed to a formatting is right: the geometry, 1 to 15 keys of 32 bytes, a count of 1 to P for each, and a tape that is long
-- enough.
pub record Right (g : Geometry) (n : ℕ) (keys counts tape : List ℕ) (position : ℕ) : Type 0 where
  pub allowed : Allowed g
  pub least : 1 ≤ n
  pub most : n ≤ 15
  pub keyed : length keys ≡ 32 * n
  pub counted : Counted g.p n counts
  pub enough : Enough (length tape) position (format_tape g n)

-- A device of the right length is made, and the position is past the bytes drawn.
abbrev pub MadeWith : Geometry → (n : ℕ) → (keys counts tape : List ℕ) → (position : ℕ) → Type 0
MadeWith g n keys counts tape position =
    (made : List ℕ) × (format_model (device_length g) g n keys counts tape position ≡ LentResult.Served made (position + format_tape g n))

pub record FormatPoints : Type 0 where
  pub blank : FormattedOpens
  pub runs : (made : List ℕ) (x : Handed) (l : Lent) (i : ℕ) → FormattedFor made x l i → FromMaking made x l i
  -- With what is handed in right, nothing but 24 can refuse; with one key there is no lower cell, and with two equal keys one opens.
  pub right : (g : Geometry) (n : ℕ) (keys counts tape : List ℕ) (position : ℕ) → Right g n keys counts tape position
      → MadeWith g n keys counts tape position ⊎ (format_model (device_length g) g n keys counts tape position ≡ LentResult.Refused 24)
  pub one_key : (g : Geometry) (key counts tape : List ℕ) (position : ℕ) → Right g 1 key counts tape position
      → MadeWith g 1 key counts tape position
  pub equal_keys : (g : Geometry) (n : ℕ) (keys counts tape : List ℕ) (position : ℕ) → Right g n keys counts tape position
      → (i j : ℕ) → j < i → i < n → key_in keys i ≡ key_in keys j
      → format_model (device_length g) g n keys counts tape position ≡ LentResult.Refused 24
  -- So a device that opens exists, of every geometry, for every key and every N that is allowed.
  pub some_opens : (x : Handed) (l : Lent) (count : ℕ) → Allowed x.geometry → length x.key ≡ 32 → CountFits x.geometry.p count
      → Names x.geometry.p x.perm → TablesFit x.geometry (length l.maps) (length l.owners)
      → (device : List ℕ) × ((opens device x l).answer ≡ OpenTo 0) × (count_of (opens device x l).session 0 ≡ count)

-- ---- the accident of the case: a slice that two volumes hold

-- Two entries of open volumes that name one slice are one entry. A slice that an entry names has its volume as owner, and one that
-- none names is free.
pub record HeldOnce (h : Held) : Type 0 where
  pub once : (i σ j τ : ℕ) → i ≤ h.session.k → j ≤ h.session.k → σ < (geometry h).p → τ < (geometry h).p
      → entry h.maps (geometry h) i σ < (geometry h).p → entry h.maps (geometry h) i σ ≡ entry h.maps (geometry h) j τ
      → (i ≡ j) × (σ ≡ τ)
  pub owner : (i ψ : ℕ) → i ≤ h.session.k → ψ < (geometry h).p → Maps (entry h.maps (geometry h)) (geometry h).p i ψ
      → get_or h.owners ψ 0 ≡ i + 1
  pub free : (ψ : ℕ) → ψ < (geometry h).p → ((i : ℕ) → i ≤ h.session.k → Maps (entry h.maps (geometry h)) (geometry h).p i ψ → ⊥)
      → get_or h.owners ψ 0 ≡ 0

-- After every list of calls, while the session is open: no slice is held twice and no held slice is free; and a slice that the next
-- call claims is one that no entry of an open volume names.
pub record NeverTwice (st : State) (cs : List Call) : Type 0 where
  pub apart : (final st cs).held.session.opened ≡ true → HeldOnce (final st cs).held
  pub fresh : (i a : ℕ) (text perm tape : List ℕ) (ψ probes : ℕ)
      → (outcome (final st cs) (Writing i a text perm tape)).answer ≡ Writes i a text perm tape (WriteResult.Served (Claimed ψ) probes)
      → (j : ℕ) → j ≤ (final st cs).held.session.k
      → Maps (entry (final st cs).held.maps (geometry (final st cs).held)) (geometry (final st cs).held).p j ψ → ⊥

abbrev pub NoSliceTwice : Type 0
NoSliceTwice = (s : List ℕ) (x : Handed) (l : Lent) (k : ℕ) → (opens s x l).answer ≡ OpenTo k → (cs : List Call) → NeverTwice (begin s x l) cs
