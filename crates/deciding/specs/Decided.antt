-- What a decision on a write says of the model's write (document 01, "Write"; document 02, P2 and P7). Assumes nothing.
use Rattle.std.specs.Prelude.{ℕ, ◌≤◌, ◌<◌, ◌≡◌, List, length}
use Rattle.refusals.specs.Numbers.{refusal_number}
use Rattle.model.specs.declared.Session.{Session}
use Rattle.model.specs.Session.{Held, Outcome, geometry, slice_of, offset_of, idle}
use Rattle.model.specs.Conditions.{Enough}
use Rattle.model.specs.Write.{WriteResult, rewritten, claimed, claim_need, full, write_refusal, write_model}
use Rattle.deciding.specs.declared.Decision.{Decision}
use Rattle.deciding.specs.declared.Decision.TheVariants.{Refused, Full, Rewrite, Claim}

-- A write that is served: what the model gives for it, and what carrying it out needs: no refusal applies, the slice is below
-- P, and the tape has the bytes.
pub record Serves (device : ℕ) (h : Held) (i a : ℕ) (text perm tape : List ℕ) (o : Outcome WriteResult) (ψ need : ℕ) : Type 0 where
  pub outcome : write_model device h i a text perm tape ≡ o
  pub none : write_refusal device h.maps h.owners h.session i a (length text) (length perm) ≡ 0
  pub slice : ψ < (geometry h).p
  pub enough : Enough (length tape) h.position need

-- A place that the search came to: from the start place on, and below P.
pub record Looked (s : Session) (place : ℕ) : Type 0 where
  pub from : s.start ≤ place
  pub inside : place < s.geometry.p

-- Refused: the model refuses with this number and count, and nothing changes. Full: it refuses with 22, with all places from the start
-- place on looked at. Rewrite and Claim: it serves with this slice.
abbrev pub Decided : (device : ℕ) → Held → (i a : ℕ) → (text perm tape : List ℕ) → Decision → Type 0
Decided device h i a text perm tape (Refused r probes) =
    write_model device h i a text perm tape ≡ idle h (WriteResult.Refused (refusal_number r) probes)
Decided device h i a text perm tape Full = (write_model device h i a text perm tape ≡ full h) × (h.session.start ≤ (geometry h).p)
Decided device h i a text perm tape (Rewrite ψ) =
    Serves device h i a text perm tape (rewritten h i ψ (offset_of (geometry h) a) text tape) ψ 16
Decided device h i a text perm tape (Claim ψ place) =
    Serves device h i a text perm tape (claimed h i (slice_of (geometry h) a) (offset_of (geometry h) a) ψ place text tape) ψ (claim_need (geometry h))
    × Looked h.session place

-- The block of a claim is small, so that the tape bytes of a claim are a number of the machine.
abbrev pub Sized : Session → Decision → Type 0
Sized s (Refused r probes) = Unit {0}
Sized s Full = Unit {0}
Sized s (Rewrite ψ) = Unit {0}
Sized s (Claim ψ place) = s.geometry.b ≤ 4096

-- The tape bytes that a decision draws.
abbrev pub needed : Session → Decision → ℕ
needed s (Refused r probes) = 0
needed s Full = 0
needed s (Rewrite ψ) = 16
needed s (Claim ψ place) = claim_need s.geometry

-- What carrying a decision out comes to, its bytes drawn from a tape.
abbrev pub carried : Held → (i a : ℕ) → (text tape : List ℕ) → Decision → Outcome WriteResult
carried h i a text tape (Refused r probes) = idle h (WriteResult.Refused (refusal_number r) probes)
carried h i a text tape Full = full h
carried h i a text tape (Rewrite ψ) = rewritten h i ψ (offset_of (geometry h) a) text tape
carried h i a text tape (Claim ψ place) = claimed h i (slice_of (geometry h) a) (offset_of (geometry h) a) ψ place text tape

-- A slice that can be written: no refusal applies, for some length of the permutation, the slice is below P, and the bytes
-- are drawn.
pub record Fits (device : ℕ) (maps owners : List ℕ) (s : Session) (i a text drawn ψ need : ℕ) : Type 0 where
  pub perm : ℕ
  pub none : write_refusal device maps owners s i a text perm ≡ 0
  pub slice : ψ < s.geometry.p
  pub drawn_all : drawn ≡ need

-- What carrying a decision out needs.
abbrev pub Ready : (device : ℕ) → (maps owners : List ℕ) → Session → (i a text drawn : ℕ) → Decision → Type 0
Ready device maps owners s i a text drawn (Refused r probes) = Unit {0}
Ready device maps owners s i a text drawn Full = s.start ≤ s.geometry.p
Ready device maps owners s i a text drawn (Rewrite ψ) = Fits device maps owners s i a text drawn ψ 16
Ready device maps owners s i a text drawn (Claim ψ place) =
    Fits device maps owners s i a text drawn ψ (claim_need s.geometry) × Looked s place
