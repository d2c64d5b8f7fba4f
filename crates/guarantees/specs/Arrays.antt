-- Point 2, call by call: each open volume is an array of blocks, and each request has the answer that it is
-- due; volume i has N × S blocks (document 02, P4), and those of a released logical slice are zeros (document 02, P5). A claim takes B + 16
-- tape bytes, a release 16, a close none (document 02, P7). Assumes nothing.
use Rattle.std.specs.Prelude.{ℕ, ◌+◌, ◌*◌, ◌≤◌, ◌<◌, ◌≡◌, List, [], ◌∷◌, true, ◌&&◌, length, replicate, eqb}
use Rattle.model.specs.declared.Geometry.{Geometry}
use Rattle.model.specs.declared.Change.TheVariants.{Claimed, Rewritten}
use Rattle.model.specs.Parts.{choose}
use Rattle.model.specs.Session.{Held, geometry, count_of, slice_of, unmapped}
use Rattle.model.specs.Read.{ReadResult}
use Rattle.model.specs.Write.{WriteResult}
use Rattle.model.specs.Release.{ReleaseResult}
use Rattle.model.specs.Close.{CloseResult}
use Rattle.guarantees.specs.Runs.{State, Call, Event, Reads, Finds, Writes, Releases, Closes, outcome, next}
use Rattle.model.specs.Conditions.{Enough, Names, slice_at}
use Rattle.guarantees.specs.Rules.{held_entry, table_entry, block_in, FreeAt, BadAt, NoneFree, probes_at, all_probes}

-- Block a of volume i.
abbrev pub Arrays : Type 0
Arrays = ℕ → ℕ → List ℕ

-- The arrays with one block replaced.
abbrev pub put : Arrays → (i a : ℕ) → List ℕ → Arrays
put arrays i a text j b = choose (eqb j i && eqb b a) text (arrays j b)

-- The arrays with zeros in the S blocks of logical slice σ of volume i.
abbrev pub cleared : Geometry → Arrays → (i σ : ℕ) → Arrays
cleared g arrays i σ j b = choose (eqb j i && eqb (slice_of g b) σ) (replicate g.b 0) (arrays j b)

-- A served write replaces its block, a served release clears the blocks of its logical slice, and nothing else changes an array.
unfoldable pub arrays_after : Geometry → Arrays → Event → Arrays
arrays_after g arrays (Writes i a text perm tape (WriteResult.Served change probes)) = put arrays i a text
arrays_after g arrays (Writes i a text perm tape (WriteResult.Refused n probes)) = arrays
arrays_after g arrays (Releases i σ perm tape (ReleaseResult.Freed ψ)) = cleared g arrays i σ
arrays_after g arrays (Releases i σ perm tape (ReleaseResult.Refused n)) = arrays
arrays_after g arrays (Reads i a room r) = arrays
arrays_after g arrays (Finds i a bytes) = arrays
arrays_after g arrays (Closes r) = arrays

unfoldable pub arrays_after_all : Geometry → Arrays → List Event → Arrays
arrays_after_all g arrays [] = arrays
arrays_after_all g arrays (e ∷ es) = arrays_after_all g (arrays_after g arrays e) es

-- ---- when each answer is due

-- What an open session asks of a request with a permutation of n places, volume i, address a and a buffer or text of len
-- bytes; a request without permutation has n = P.
pub record Fits (h : Held) (n i a len : ℕ) : Type 0 where
  pub opened : h.session.opened ≡ true
  pub places : n ≡ (geometry h).p
  pub volume : i ≤ h.session.k
  pub address : a < count_of h.session i * (geometry h).s
  pub size : len ≡ (geometry h).b

-- The first of these that fails, by its refusal.
pub data Unfit (h : Held) (n i a len : ℕ) : ℕ → Type 0 where
  shut : (h.session.opened ≡ true → ⊥) → Unfit h n i a len 20
  places : h.session.opened ≡ true → (n ≡ (geometry h).p → ⊥) → Unfit h n i a len 5
  volume : h.session.opened ≡ true → n ≡ (geometry h).p → h.session.k < i → Unfit h n i a len 11
  address : h.session.opened ≡ true → n ≡ (geometry h).p → i ≤ h.session.k → count_of h.session i * (geometry h).s ≤ a
      → Unfit h n i a len 12
  size : h.session.opened ≡ true → n ≡ (geometry h).p → i ≤ h.session.k → a < count_of h.session i * (geometry h).s
      → (len ≡ (geometry h).b → ⊥) → Unfit h n i a len 13

-- A read that fits is served with the array's block.
pub data ReadDue (arrays : Arrays) (h : Held) (i a room : ℕ) : ReadResult → Type 0 where
  filled : Fits h (geometry h).p i a room → ReadDue arrays h i a room (ReadResult.Filled (arrays i a))
  refused : (r : ℕ) → Unfit h (geometry h).p i a room r → ReadDue arrays h i a room (ReadResult.Refused r)

-- A find gives the stored block, and nothing where a read with a right buffer is refused or the slice is unmapped.
pub data FindDue (device : List ℕ) (h : Held) (i a : ℕ) : List ℕ → Type 0 where
  found : Fits h (geometry h).p i a (geometry h).b → held_entry h i a < (geometry h).p
      → FindDue device h i a (block_in device (geometry h) (held_entry h i a) a)
  nowhere : (Fits h (geometry h).p i a (geometry h).b → held_entry h i a ≡ unmapped) → FindDue device h i a []

-- A write that fits is served but where the tape is short (21), every place from the start place on held (22) or a place without slice
-- met there first (5); document 02, P2.
pub data WriteDue (h : Held) (i a : ℕ) (text perm tape : List ℕ) : WriteResult → Type 0 where
  rewritten : Fits h (length perm) i a (length text) → held_entry h i a < (geometry h).p → Enough (length tape) h.position 16
      → WriteDue h i a text perm tape (WriteResult.Served (Rewritten (held_entry h i a)) 0)
  rewrite_short : Fits h (length perm) i a (length text) → held_entry h i a < (geometry h).p → (Enough (length tape) h.position 16 → ⊥)
      → WriteDue h i a text perm tape (WriteResult.Refused 21 0)
  claimed : Fits h (length perm) i a (length text) → held_entry h i a ≡ unmapped → (n : ℕ) → FreeAt h perm n
      → Enough (length tape) h.position ((geometry h).b + 16)
      → WriteDue h i a text perm tape (WriteResult.Served (Claimed (slice_at perm n)) (probes_at h n))
  claim_short : Fits h (length perm) i a (length text) → held_entry h i a ≡ unmapped → (n : ℕ) → FreeAt h perm n
      → (Enough (length tape) h.position ((geometry h).b + 16) → ⊥)
      → WriteDue h i a text perm tape (WriteResult.Refused 21 (probes_at h n))
  no_slice : Fits h (length perm) i a (length text) → held_entry h i a ≡ unmapped → (n : ℕ) → BadAt h perm n
      → WriteDue h i a text perm tape (WriteResult.Refused 5 (probes_at h n))
  full : Fits h (length perm) i a (length text) → held_entry h i a ≡ unmapped → NoneFree h perm
      → WriteDue h i a text perm tape (WriteResult.Refused 22 (all_probes h))
  refused : (r : ℕ) → Unfit h (length perm) i a (length text) r → WriteDue h i a text perm tape (WriteResult.Refused r 0)

-- A release of a mapped logical slice of an open volume is served with the slice that its entry names; what is wrong first decides the
-- refusal, and last the tape is short (21; document 02, P5 and P7).
pub data ReleaseDue (h : Held) (i σ : ℕ) (perm tape : List ℕ) : ReleaseResult → Type 0 where
  freed : h.session.opened ≡ true → Names (geometry h).p perm → i ≤ h.session.k → σ < count_of h.session i
      → table_entry h i σ < (geometry h).p → Enough (length tape) h.position 16
      → ReleaseDue h i σ perm tape (ReleaseResult.Freed (table_entry h i σ))
  shut : (h.session.opened ≡ true → ⊥) → ReleaseDue h i σ perm tape (ReleaseResult.Refused 20)
  places : h.session.opened ≡ true → (Names (geometry h).p perm → ⊥) → ReleaseDue h i σ perm tape (ReleaseResult.Refused 5)
  volume : h.session.opened ≡ true → Names (geometry h).p perm → h.session.k < i → ReleaseDue h i σ perm tape (ReleaseResult.Refused 11)
  slice : h.session.opened ≡ true → Names (geometry h).p perm → i ≤ h.session.k → count_of h.session i ≤ σ
      → ReleaseDue h i σ perm tape (ReleaseResult.Refused 12)
  none : h.session.opened ≡ true → Names (geometry h).p perm → i ≤ h.session.k → σ < count_of h.session i
      → table_entry h i σ ≡ unmapped → ReleaseDue h i σ perm tape (ReleaseResult.Refused 25)
  release_short : h.session.opened ≡ true → Names (geometry h).p perm → i ≤ h.session.k → σ < count_of h.session i
      → table_entry h i σ < (geometry h).p → (Enough (length tape) h.position 16 → ⊥) → ReleaseDue h i σ perm tape (ReleaseResult.Refused 21)

-- A close of an open session is served.
pub data CloseDue (h : Held) : CloseResult → Type 0 where
  done : h.session.opened ≡ true → CloseDue h CloseResult.Closed
  shut : (h.session.opened ≡ true → ⊥) → CloseDue h (CloseResult.Refused 20)

unfoldable pub Due : Arrays → State → Event → Type 0
Due arrays st (Reads i a room r) = ReadDue arrays st.held i a room r
Due arrays st (Finds i a bytes) = FindDue st.device st.held i a bytes
Due arrays st (Writes i a text perm tape r) = WriteDue st.held i a text perm tape r
Due arrays st (Releases i σ perm tape r) = ReleaseDue st.held i σ perm tape r
Due arrays st (Closes r) = CloseDue st.held r

-- Every answer of the list is due, by the arrays as the calls before left them.
unfoldable pub AllDue : Geometry → Arrays → State → List Call → Type 0
AllDue g arrays st [] = Unit
AllDue g arrays st (c ∷ cs) = Due arrays st (outcome st c).answer × AllDue g (arrays_after g arrays (outcome st c).answer) (next st c) cs
