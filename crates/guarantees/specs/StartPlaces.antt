-- The start place of a session (document 02, P2 and P5). While no slice at an earlier place is free, a claim takes the slice that it would
-- have taken from place 0 on, and that holds while session, tables and permutation pass on untouched; and over one session, whatever
-- permutations its calls are handed, the places looked at, claims refused by 5 or 21 left out, are at most P times one more than its
-- releases. Assumes nothing.
use Rattle.std.specs.Prelude.{ℕ, ◌+◌, ◌*◌, ◌≤◌, ◌<◌, ◌≡◌, ◌⊎◌, List, [], ◌∷◌, true, ◌||◌, length, eqb}
use Rattle.model.specs.declared.Change.TheVariants.{Claimed}
use Rattle.model.specs.Parts.{choose}
use Rattle.model.specs.Session.{Held, Outcome, held, geometry}
use Rattle.model.specs.Conditions.{AllHeld, slice_at}
use Rattle.model.specs.Search.{first_free}
use Rattle.model.specs.Opening.{OpenTo}
use Rattle.model.specs.Write.{WriteResult, write_model}
use Rattle.model.specs.Release.{ReleaseResult, release_model}
use Rattle.guarantees.specs.Runs.{State, Call, Reading, Finding, Writing, Releasing, Closing, Event, Reads, Finds, Writes, Releases, Closes}
use Rattle.guarantees.specs.Runs.{final, events}
use Rattle.guarantees.specs.Rules.{FreeAt}
use Rattle.guarantees.specs.Effects.{with_start}
use Rattle.guarantees.specs.Points.{Handed, Lent, opens, begin}

-- ---- one write or release, in any session

-- A claim sets the start place to the claimed place plus one, and a 22 sets it to P.
pub record Sets (h : Held) (perm : List ℕ) (o : Outcome WriteResult) : Type 0 where
  pub claim : (ψ probes : ℕ) → o.answer ≡ WriteResult.Served (Claimed ψ) probes
      → (n : ℕ) × FreeAt h perm n × (slice_at perm n ≡ ψ) × (o.held.session.start ≡ n + 1)
  pub full : (probes : ℕ) → o.answer ≡ WriteResult.Refused 22 probes → o.held.session.start ≡ (geometry h).p

-- A release sets it to the lower of itself and the place that names the slice freed in the permutation that it is handed.
abbrev pub Lowers : Held → (perm : List ℕ) → Outcome ReleaseResult → Type 0
Lowers h perm o =
    (ψ : ℕ) → o.answer ≡ ReleaseResult.Freed ψ
    → (n : ℕ) × (n < length perm) × (slice_at perm n ≡ ψ)
    × (((h.session.start ≤ n) × (o.held.session.start ≡ h.session.start)) ⊎ ((n ≤ h.session.start) × (o.held.session.start ≡ n)))

-- No slice at a place before the start place is free.
abbrev pub NoneBefore : Held → (perm : List ℕ) → Type 0
NoneBefore h perm = AllHeld h.owners (geometry h).p perm 0 h.session.start

-- What is held, with a start place of 0.
abbrev pub from_first : Held → Held
from_first h = held h.maps h.owners h.position (with_start h.session 0)

-- The answer of a write without its count.
abbrev pub uncounted : WriteResult → WriteResult
uncounted (WriteResult.Served change probes) = WriteResult.Served change 0
uncounted (WriteResult.Refused n probes) = WriteResult.Refused n 0

-- Two writes answer alike but for the count, store the same bytes, and leave the same but for the start place.
pub record SameWrite (o o' : Outcome WriteResult) : Type 0 where
  pub answered : uncounted o.answer ≡ uncounted o'.answer
  pub stored : o.patches ≡ o'.patches
  pub mapped : o.held.maps ≡ o'.held.maps
  pub owned : o.held.owners ≡ o'.held.owners
  pub moved : o.held.position ≡ o'.held.position
  pub handed : with_start o.held.session 0 ≡ with_start o'.held.session 0

-- ---- lists of calls

-- Every write and every release of the list is handed this permutation.
unfoldable pub OnePermutation : (perm : List ℕ) → List Call → Type 0
OnePermutation perm [] = Unit
OnePermutation perm (Writing i a text other tape ∷ cs) = (other ≡ perm) × OnePermutation perm cs
OnePermutation perm (Reading i a room ∷ cs) = OnePermutation perm cs
OnePermutation perm (Finding i a ∷ cs) = OnePermutation perm cs
OnePermutation perm (Releasing i σ other tape ∷ cs) = (other ≡ perm) × OnePermutation perm cs
OnePermutation perm (Closing ∷ cs) = OnePermutation perm cs

-- The places that a claim looked at; one that is refused by 5 or 21 is left out.
abbrev pub counted : Event → ℕ
counted (Writes i a text perm tape (WriteResult.Served change probes)) = probes
counted (Writes i a text perm tape (WriteResult.Refused n probes)) = choose (eqb n 5 || eqb n 21) 0 probes
counted (Reads i a room r) = 0
counted (Finds i a bytes) = 0
counted (Releases i σ perm tape r) = 0
counted (Closes r) = 0

-- Those of a list together.
unfoldable pub counted_all : List Event → ℕ
counted_all [] = 0
counted_all (e ∷ es) = counted e + counted_all es

-- 1 for a release that was served, and how many a list has.
abbrev pub releasing : Event → ℕ
releasing (Releases i σ perm tape (ReleaseResult.Freed ψ)) = 1
releasing (Releases i σ perm tape (ReleaseResult.Refused n)) = 0
releasing (Reads i a room r) = 0
releasing (Finds i a bytes) = 0
releasing (Writes i a text perm tape r) = 0
releasing (Closes r) = 0

unfoldable pub releases_in : List Event → ℕ
releases_in [] = 0
releases_in (e ∷ es) = releasing e + releases_in es

-- The places looked at are at most P times one more than the releases, which is document 02's sentence. For the start place moves on by
-- just these, never past P, and a release takes it back by at most P; without a release nothing does.
pub record Bounded (st : State) (p : ℕ) (cs : List Call) : Type 0 where
  pub most : counted_all (events st cs) ≤ p * (1 + releases_in (events st cs))
  pub adds_up : releases_in (events st cs) ≡ 0 → (final st cs).held.session.start ≡ st.held.session.start + counted_all (events st cs)
  pub given_back : st.held.session.start + counted_all (events st cs) ≤ (final st cs).held.session.start + p * releases_in (events st cs)
  pub inside : (final st cs).held.session.start ≤ p

-- ---- together

pub record StartPlaces : Type 0 where
  -- What a write sets the start place to.
  pub sets : (device : ℕ) (h : Held) (i a : ℕ) (text perm tape : List ℕ) → Sets h perm (write_model device h i a text perm tape)
  -- And a release.
  pub lowers : (device : ℕ) (h : Held) (i σ : ℕ) (perm tape : List ℕ) → Lowers h perm (release_model device h i σ perm tape)
  -- While no slice at an earlier place is free, the search from the start place on finds what the search from place 0 on finds, and a
  -- write does what it would have done from place 0 on.
  pub found : (owners : List ℕ) (p : ℕ) (perm : List ℕ) (start : ℕ) → start ≤ length perm → AllHeld owners p perm 0 start
      → first_free owners p start perm ≡ first_free owners p 0 perm
  pub same : (device : ℕ) (h : Held) (i a : ℕ) (text perm tape : List ℕ) → h.session.start ≤ (geometry h).p → NoneBefore h perm
      → SameWrite (write_model device h i a text perm tape) (write_model device (from_first h) i a text perm tape)
  -- That holds from an opening on, while its permutation passes on and the session is open.
  pub none_before : (s : List ℕ) (x : Handed) (l : Lent) (k : ℕ) → (opens s x l).answer ≡ OpenTo k
      → (cs : List Call) → OnePermutation x.perm cs → (final (begin s x l) cs).held.session.opened ≡ true
      → NoneBefore (final (begin s x l) cs).held x.perm
  -- The bound, whatever permutation each call is handed.
  pub bounded : (s : List ℕ) (x : Handed) (l : Lent) (k : ℕ) → (opens s x l).answer ≡ OpenTo k
      → (cs : List Call) → Bounded (begin s x l) x.geometry.p cs
