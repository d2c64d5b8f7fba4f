-- The start place: what a write and a release set it to, that no free slice stands before it, and the bound. Assumes nothing.
use Prim.Native.Nat.{ℕ, zero, suc, ◌+◌, ◌*◌, ◌≤◌, ◌<◌}
use mathlib.Core.Path.{◌≡◌, refl, sym, ap, ◌∙◌, subst}
use mathlib.Core.List.{List, [], ◌∷◌}
use mathlib.Core.Bool.{Bool, true, false, ◌||◌}
use mathlib.Core.Logic.{◌⊎◌, inl, inr, ⊎_elim}
use native.Mathlib.Omega.{arith}
use native.Mathlib.Nat.{le_refl, min-le_left, min-le_right}
use lib.ListN.{length, get_or, set}
use lib.Seq.{get_or-set_same, get_or-set_other}
use lib.Dec.{ltb, eqb}
use borrow.Author.Tests.{le-ltb}
use Rattle.model.specs.declared.Geometry.{Geometry}
use Rattle.model.specs.declared.Search.{Search}
use Rattle.model.specs.declared.Search.TheVariants.{Free, Bad, Full}
use Rattle.model.specs.Parts.{choose}
use Rattle.model.specs.Session.{Held, Outcome, geometry, entry_of, slice_of, offset_of, standing, asked, short, unless, idle}
use Rattle.model.specs.Conditions.{AllHeld, slice_at}
use Rattle.model.specs.Search.{first_free}
use Rattle.model.specs.Opening.{OpenOutcome}
use Rattle.model.specs.Write.{claim_need, WriteResult, rewrite_outcome, claim_outcome, write_refusal, write_model}
use Rattle.model.specs.Maps.{bad_in_block}
use Rattle.model.specs.Permutation.{place_of}
use Rattle.model.specs.Release.{ReleaseResult, release_model}
use Rattle.model.specs.Close.{CloseResult, close_model}
use Rattle.guarantees.specs.Runs.{State, Call, Reading, Finding, Writing, Releasing, Closing, Event, Writes, Releases, Closes}
use Rattle.guarantees.specs.Runs.{as_event, outcome, next, final, events}
use Rattle.guarantees.specs.Rules.{FreeAt, probes_at, table_entry}
use Rattle.guarantees.specs.Points.{Handed, Lent, opens, holds, begin}
use Rattle.guarantees.specs.StartPlaces.{Sets, Lowers, NoneBefore, from_first, SameWrite, OnePermutation, counted, counted_all}
use Rattle.guarantees.specs.StartPlaces.{releasing, releases_in, Bounded, StartPlaces}
use Rattle.model.proofs.Tests.{equal, below, min_cases}
use Rattle.model.proofs.Requests.{write_refusal_none}
use Rattle.model.proofs.Searches.{first_free_skips}
use Rattle.guarantees.proofs.Cases.{early_not_22, write_cases, release_cases, close_cases}
use Rattle.guarantees.proofs.Releases.{released_owner}
use Rattle.guarantees.proofs.Opened.{Served, served, served_is, opened_by, served_start, served_place}

choose_same : {A : Type 0} (b : Bool) (x : A) → choose b x x ≡ x
choose_same true x = refl
choose_same false x = refl

-- ---- what a write sets it to

write_sets : (n : ℕ) (h : Held) (i a : ℕ) (text perm tape : List ℕ) → Sets h perm (write_model n h i a text perm tape)
write_sets n h i a text perm tape =
    write_cases n h i a text perm tape (Sets h perm)
    (λ r e. none (suc r) 0 (λ q. early_not_22 n h i a text perm tape (e ∙ q))) (λ w l s. none 21 0 (omega arith))
    (λ w l s. record {
      claim = λ ψ probes e. let z : ◌≡◌ {A = ℕ} 0 1 = cc in absurd (omega arith);
      full = λ probes e. let z : ◌≡◌ {A = ℕ} 0 1 = cc in absurd (omega arith);
    })
    (λ w u f. none 9 0 (omega arith))
    (λ c place f. none 5 (probes_at h place) (omega arith))
    (λ c f. record { claim = λ ψ probes e. let z : ◌≡◌ {A = ℕ} 0 1 = cc in absurd (omega arith); full = λ probes e. refl })
    (λ c place f s. none 21 (probes_at h place) (omega arith))
    (λ c ψ place f q s. record {
      claim = λ φ probes e. let same : ψ ≡ φ = cc in (place, f, q ∙ same, refl);
      full = λ probes e. let z : ◌≡◌ {A = ℕ} 0 1 = cc in absurd (omega arith);
    })
  where
    none : (number count : ℕ) → (number ≡ 22 → ⊥) → Sets h perm (idle h (WriteResult.Refused number count))
    none number count ne =
        record {
          claim = λ ψ probes e. let z : ◌≡◌ {A = ℕ} 0 1 = cc in absurd (omega arith);
          full = λ probes e. let q : number ≡ 22 = cc in absurd (ne q);
        }

-- ---- what a release sets it to

release_lowers : (n : ℕ) (h : Held) (i σ : ℕ) (perm tape : List ℕ) → Lowers h perm (release_model n h i σ perm tape)
release_lowers n h i σ perm tape =
    release_cases n h i σ perm tape (Lowers h perm)
    (λ r e ψ q. let z : ◌≡◌ {A = ℕ} 0 1 = cc in absurd (omega arith))
    (λ w ψ q. let same : table_entry h i σ ≡ ψ = cc in
    (place_of (table_entry h i σ) perm, w.place.inside, w.place.is ∙ same, min_cases h.session.start _))

-- ---- the bound: one call

-- The start place moves on by the places counted, but for a release, which takes it back by at most P; it stays at or below P, and the
-- geometry stays.
record Moves (h : Held) (o : Outcome Event) : Type 0 where
  adds : ((releasing o.answer ≡ 0) × (o.held.session.start ≡ h.session.start + counted o.answer))
      ⊎ ((releasing o.answer ≡ 1) × (counted o.answer ≡ 0))
  inside : h.session.start ≤ (geometry h).p → o.held.session.start ≤ (geometry h).p
  geo : geometry o.held ≡ geometry h

-- A call that leaves the start place and counts nothing.
stays : {h : Held} {o : Outcome Event} → releasing o.answer ≡ 0 → o.held.session.start ≡ h.session.start → counted o.answer ≡ 0
    → geometry o.held ≡ geometry h → Moves h o
stays r s c g = record { adds = inl (r, omega (arith, s, c)); inside = λ l. omega (arith, s, l); geo = g }

moves : (st : State) (c : Call) → Moves st.held (outcome st c)
unfolding outcome
moves st (Reading i a room) = stays refl refl refl refl
moves st (Finding i a) = stays refl refl refl refl
moves st (Writing i a text perm tape) =
    let h = st.held in
    write_cases (length st.device) h i a text perm tape (λ (o : Outcome WriteResult). Moves h (as_event (Writes i a text perm tape) o))
    (λ r e. stays refl refl (choose_same (eqb (suc r) 5 || eqb (suc r) 21) 0) refl)
    (λ w l s. stays refl refl refl refl)
    (λ w l s. stays refl refl refl refl)
    (λ w u f. stays refl refl refl refl)
    (λ c place f. stays refl refl refl refl)
    (λ c f. record {
      adds = inl (refl, omega (arith, c.writable.stands.usable.place));
      inside = λ l. le_refl (geometry h).p;
      geo = refl;
    })
    (λ c place f s. stays refl refl refl refl)
    (λ c ψ place f q s. record {
      adds = inl (refl, omega (arith, f.from));
      inside = λ l. omega (arith, f.inside, c.writable.places);
      geo = refl;
    })
moves st (Releasing i σ perm tape) =
    let h = st.held in
    release_cases (length st.device) h i σ perm tape (λ (o : Outcome ReleaseResult). Moves h (as_event (Releases i σ perm tape) o))
    (λ r e. stays refl refl refl refl)
    (λ w. record {
      adds = inr (refl, refl);
      inside = λ l. omega (arith, l, min-le_left h.session.start (place_of (table_entry h i σ) perm));
      geo = refl;
    })
moves st Closing =
    close_cases (length st.device) st.held (λ (o : Outcome CloseResult). Moves st.held (as_event Closes o))
    (λ r e. stays refl refl refl refl) (λ s. stays refl refl refl refl)

-- ---- the bound: the list

-- Without releases the places counted add up.
run_adds : (cs : List Call) (st : State) → releases_in (events st cs) ≡ 0
    → (final st cs).held.session.start ≡ st.held.session.start + counted_all (events st cs)
unfolding final events counted_all releases_in
run_adds [] st none = omega arith
run_adds (c ∷ cs) st none =
    let rest = run_adds cs (next st c) (omega (arith, none)) in
    ⊎_elim (λ k. omega (arith, rest, k.1)) (λ k. absurd (omega (arith, none, k.0))) (moves st c).adds

-- In a session whose start place is at most P it stays so, and each release takes back at most P.
record Within-bound (st : State) (p : ℕ) (cs : List Call) : Type 0 where
  inside : (final st cs).held.session.start ≤ p
  back : st.held.session.start + counted_all (events st cs) ≤ (final st cs).held.session.start + p * releases_in (events st cs)

run_bound : (cs : List Call) (st : State) (p : ℕ) → (geometry st.held).p ≡ p → st.held.session.start ≤ p → Within-bound st p cs
unfolding final events counted_all releases_in
run_bound [] st p g l = record { inside = l; back = omega arith }
run_bound (c ∷ cs) st p g l =
    let m = moves st c in
    let r = run_bound cs (next st c) p (ap (λ (z : Geometry). z.p) m.geo ∙ g) (omega (arith, m.inside (omega (arith, l, g)), g)) in
    let more = releases_in (events (next st c) cs) in
    let times : (x : ℕ) → releasing (outcome st c).answer ≡ x → p * (releasing (outcome st c).answer + more) ≡ p * (x + more) =
    λ x e. ap (λ (y : ℕ). p * (y + more)) e in
    record {
      inside = r.inside;
      back =
          ⊎_elim (λ k. omega (arith, r.back, k.1, times 0 k.0)) (λ k. omega (arith, r.back, k.1, times 1 k.0, l)) m.adds;
    }

-- ---- no slice before it is free

-- In an open session no slice before the start place is free.
abbrev WhileOpen : (perm : List ℕ) → Held → Type 0
WhileOpen perm h = h.session.opened ≡ true → NoneBefore h perm

-- The slices up to a claimed one are held after the claim.
module _ (h : Held) (perm : List ℕ) (passed : NoneBefore h perm) where
  claimed_held : (i ψ place : ℕ) → length h.owners ≡ (geometry h).p → FreeAt h perm place → slice_at perm place ≡ ψ
      → AllHeld (set h.owners ψ (i + 1)) (geometry h).p perm 0 (place + 1)
  claimed_held i ψ place long f q m from l = ⊎_elim this other (equal (slice_at perm m) ψ)
    where
      Held-now : Type 0
      Held-now = (slice_at perm m < (geometry h).p) × (get_or (set h.owners ψ (i + 1)) (slice_at perm m) 0 ≡ 0 → ⊥)

      hψ : ψ < (geometry h).p
      hψ = rw q at f.slice

      this : slice_at perm m ≡ ψ → Held-now
      this e = rw e (hψ, λ z. omega (arith, z, get_or-set_same h.owners ψ (i + 1) 0 (omega (arith, hψ, long))))

      other : (slice_at perm m ≡ ψ → ⊥) → Held-now
      other ne =
          let before : m < place = ⊎_elim (λ b. b) (λ b. absurd (ne (let e : m ≡ place = omega (arith, b, l) in rw e q))) (below m place) in
          let old = ⊎_elim (λ b. passed m from b) (λ b. f.before m b before) (below m h.session.start) in
          (old.0, λ z. old.1 (sym (get_or-set_other h.owners ψ (slice_at perm m) (i + 1) 0 ne) ∙ z))

write_none : (n : ℕ) (h : Held) (i a : ℕ) (text perm tape : List ℕ) → WhileOpen perm h → WhileOpen perm (write_model n h i a text perm tape).held
write_none n h i a text perm tape passed =
    write_cases n h i a text perm tape (λ (o : Outcome WriteResult). WhileOpen perm o.held)
    (λ r e. passed) (λ w l s. passed) (λ w l s. passed) (λ w u f. passed) (λ c place f. passed)
    (λ c f live m from l. ⊎_elim (λ b. passed live m from b) (λ b. f m b (omega (arith, l, c.writable.places))) (below m h.session.start))
    (λ c place f s. passed)
    (λ c ψ place f q s live. claimed_held h perm (passed live) i ψ place c.writable.stands.tables.1 f q)

close_none : (n : ℕ) (h : Held) (perm : List ℕ) → WhileOpen perm h → WhileOpen perm (close_model n h).held
close_none n h perm passed =
    close_cases n h (λ (o : Outcome CloseResult). WhileOpen perm o.held) (λ r e. passed)
    (λ s live. let z : ◌≡◌ {A = ℕ} 0 1 = cc in absurd (omega arith))

-- Before the lower of the start place and the place of the slice freed every slice is another one, and stays held.
release_none : (n : ℕ) (h : Held) (i σ : ℕ) (perm tape : List ℕ) → WhileOpen perm h → WhileOpen perm (release_model n h i σ perm tape).held
release_none n h i σ perm tape passed =
    release_cases n h i σ perm tape (λ (o : Outcome ReleaseResult). WhileOpen perm o.held) (λ r e. passed)
    (λ w live m from l.
    let place = place_of (table_entry h i σ) perm in
    let start = h.session.start in
    let old = passed live m from (omega (arith, l, min-le_left start place)) in
    let other : slice_at perm m ≡ table_entry h i σ → ⊥ =
    λ e. omega (arith, w.place.first m (omega (arith, l, min-le_right start place, w.place.inside)) e, l, min-le_right start place) in
    (old.0, λ z. old.1 (sym (released_owner n h i σ perm tape w (slice_at perm m) other) ∙ z)))

run_none : (perm : List ℕ) (cs : List Call) (st : State) → OnePermutation perm cs → WhileOpen perm st.held → WhileOpen perm (final st cs).held
unfolding final outcome OnePermutation
run_none perm [] st k passed = passed
run_none perm (Reading i a room ∷ cs) st k passed = run_none perm cs _ k passed
run_none perm (Finding i a ∷ cs) st k passed = run_none perm cs _ k passed
run_none perm (Writing i a text other tape ∷ cs) st k passed =
    run_none perm cs _ k.1
    (subst (λ (p : List ℕ). WhileOpen perm (write_model (length st.device) st.held i a text p tape).held) (sym k.0)
    (write_none (length st.device) st.held i a text perm tape passed))
run_none perm (Releasing i σ other tape ∷ cs) st k passed =
    run_none perm cs _ k.1
    (subst (λ (p : List ℕ). WhileOpen perm (release_model (length st.device) st.held i σ p tape).held) (sym k.0)
    (release_none (length st.device) st.held i σ perm tape passed))
run_none perm (Closing ∷ cs) st k passed = run_none perm cs _ k (close_none (length st.device) st.held perm passed)

-- ---- a write does what it would have done from place 0 on

same_choose : {o o' q q' : Outcome WriteResult} (b : Bool) → SameWrite o o' → SameWrite q q' → SameWrite (choose b o q) (choose b o' q')
same_choose true this other = this
same_choose false this other = other

same_unless : {r r' : ℕ} {f f' : ℕ → Outcome WriteResult} {o o' : Outcome WriteResult} → r ≡ r' → ((n : ℕ) → SameWrite (f n) (f' n))
    → (r ≡ 0 → SameWrite o o') → SameWrite (unless r f o) (unless r' f' o')
same_unless {r} {r'} {f} {f'} {o} {o'} e refused served = subst (λ (z : ℕ). SameWrite (unless r f o) (unless z f' o')) e (go r refl)
  where
    go : (z : ℕ) → r ≡ z → SameWrite (unless z f o) (unless z f' o')
    go zero q = served q
    go (suc z) q = refused (suc z)

module _ (n : ℕ) (h : Held) (i a : ℕ) (text perm tape : List ℕ) (inside : h.session.start ≤ (geometry h).p) (before : NoneBefore h perm) where
  abbrev h₀ : Held
  h₀ = from_first h

  abbrev refusal : Held → ℕ
  refusal z = write_refusal n z.maps z.owners z.session i a (length text) (length perm)

  -- Neither start place is above P.
  same_refusal : refusal h ≡ refusal h₀
  unfolding write_refusal standing asked
  same_refusal = rw (le-ltb (geometry h).p h.session.start inside, le-ltb (geometry h).p 0 (omega arith)) refl

  abbrev claims : Held → Search → Outcome WriteResult
  claims z s = claim_outcome z i (slice_of (geometry h) a) (offset_of (geometry h) a) text tape s

  -- A refusal that changes nothing.
  refused_same : (number count count' : ℕ)
      → SameWrite (idle h (WriteResult.Refused number count)) (idle h₀ (WriteResult.Refused number count'))
  refused_same number count count' = record { answered = refl; stored = refl; mapped = refl; owned = refl; moved = refl; handed = refl }

  claim_same : (s : Search) → SameWrite (claims h s) (claims h₀ s)
  claim_same (Bad place) = refused_same 5 _ _
  claim_same Full = record { answered = refl; stored = refl; mapped = refl; owned = refl; moved = refl; handed = refl }
  claim_same (Free ψ place) =
      same_choose (short (length tape) h.position (claim_need (geometry h))) (refused_same 21 _ _)
      (record { answered = refl; stored = refl; mapped = refl; owned = refl; moved = refl; handed = refl })

  rewrite_same : (ψ j : ℕ) → SameWrite (rewrite_outcome h i ψ j text tape) (rewrite_outcome h₀ i ψ j text tape)
  rewrite_same ψ j =
      same_choose (short (length tape) h.position 16) (refused_same 21 0 0)
      (record { answered = refl; stored = refl; mapped = refl; owned = refl; moved = refl; handed = refl })

  write_same : SameWrite (write_model n h i a text perm tape) (write_model n h₀ i a text perm tape)
  unfolding write_model bad_in_block
  write_same =
      same_unless same_refusal (λ r. refused_same r 0 0)
      (λ e. let w = write_refusal_none n h.maps h.owners h.session i a (length text) (length perm) e in
      same_choose (ltb (entry_of h.maps (geometry h) i a) (geometry h).p)
      (rewrite_same (entry_of h.maps (geometry h) i a) (offset_of (geometry h) a))
      (same_choose (bad_in_block h.maps h.session i (slice_of (geometry h) a)) (refused_same 9 0 0)
      (subst (λ (s : Search). SameWrite (claims h s) (claims h₀ first))
      (first_free_skips h.owners (geometry h).p perm 0 h.session.start (omega arith) (omega (arith, inside, w.places)) before)
      (claim_same first))))
    where
      first : Search
      first = first_free h.owners (geometry h).p 0 perm

-- ---- over one session

module _ (s : List ℕ) (x : Handed) (l : Lent) (k : ℕ) (sv : Served s x l k) where
  abbrev st : State
  st = begin s x l

  by : (P : OpenOutcome → Type 0) → P (opened_by s x l k sv) → P (opens s x l)
  by P = subst P (sym (served_is s x l k sv))

  session_bounded : (cs : List Call) → Bounded st x.geometry.p cs
  session_bounded cs =
      record {
        most = let all : x.geometry.p * (1 + releases_in (events st cs)) ≡ x.geometry.p + x.geometry.p * releases_in (events st cs) = omega arith in
            omega (arith, all, bound.back, bound.inside);
        adds_up = run_adds cs st;
        given_back = bound.back;
        inside = bound.inside;
      }
    where
      bound : Within-bound st x.geometry.p cs
      bound =
          run_bound cs st x.geometry.p (by (λ (o : OpenOutcome). o.session.geometry.p ≡ x.geometry.p) refl)
          (by (λ (o : OpenOutcome). o.session.start ≤ x.geometry.p) (served_place s x l k sv))

  first_none : WhileOpen x.perm (holds s x l)
  first_none live =
      by (λ (o : OpenOutcome). AllHeld o.owners o.session.geometry.p x.perm 0 o.session.start)
      (⊎_elim (λ f. f.before) (λ f. rw f.1 f.0) (served_start s x l k sv))

pub start_places : StartPlaces
start_places =
    record {
      sets = write_sets;
      lowers = release_lowers;
      found = λ owners p perm start inside before. sym (first_free_skips owners p perm 0 start (omega arith) inside before);
      same = write_same;
      none_before = λ s x l k e cs one live. run_none x.perm cs (begin s x l) one (first_none s x l k (served s x l k e)) live;
      bounded = λ s x l k e. session_bounded s x l k (served s x l k e);
    }
