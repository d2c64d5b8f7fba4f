-- Point 3: two devices alike on what is open stay so over every list of calls. Assumes nothing.
use Prim.Native.Nat.{ℕ, zero, suc, ◌+◌, ◌*◌, ◌≤◌, ◌<◌}
use mathlib.Core.Path.{◌≡◌, refl, sym, ap, ap₂, ◌∙◌, subst}
use mathlib.Core.List.{List, [], ◌∷◌, ◌++◌}
use mathlib.Core.Logic.{inl, ⊎_elim}
use native.Mathlib.Omega.{arith}
use lib.ListN.{length, get_or, get_or-replicate}
use lib.Arith.{digits_lt}
use lib.Dec.{ltb}
use borrow.Author.Tests.{lt-ltb, le-ltb}
use Rattle.model.specs.declared.Geometry.{Geometry}
use Rattle.model.specs.Parts.{choose, part, Patch, patched}
use Rattle.model.specs.Geometry.{slice_start, slice_size, iv_start, block_start, Allowed}
use Rattle.model.specs.Session.{Held, Outcome, geometry, key_of, slice_of, offset_of, unmapped, unless, idle}
use Rattle.model.specs.Read.{block_of, ReadResult, read_model, find_model}
use Rattle.model.specs.Write.{WriteResult, claim_need, rewritten, claimed, full, claimed_bytes, write_model}
use Rattle.model.specs.Permutation.{place_of}
use Rattle.model.specs.Release.{released, release_model}
use Rattle.model.specs.Close.{close_model}
use Rattle.guarantees.specs.Runs.{State, Call, Reading, Finding, Writing, Releasing, Closing, Event, Reads, Finds, Writes, Releases, Closes}
use Rattle.guarantees.specs.Runs.{as_event, outcome, next}
use Rattle.guarantees.specs.Runs.{final, events, positions, left, written_by_all, Within}
use Rattle.model.specs.Conditions.{Enough}
use Rattle.guarantees.specs.Rules.{held_entry, table_entry, FreeAt}
use Rattle.guarantees.specs.Points.{EqualRuns}
use Rattle.model.proofs.Parts.{part_length, part_agree, patched-length}
use Rattle.model.proofs.Tests.{below}
use Rattle.model.proofs.Bounds.{offset_of_lt, block_within, iv_within_slice}
use Rattle.model.proofs.Requests.{read_refusal_none, asked_slice}
use Rattle.guarantees.proofs.Patches.{ranges_of, patched_both, patched_written}
use Rattle.guarantees.proofs.SoundTables.{OpenVolume}
use Rattle.guarantees.proofs.Blocks.{deciphered-same, claimed_length}
use Rattle.guarantees.proofs.Cases.{Stands, Asked, read_refusal_of, Writable, Claimable, write_stores, release_cases, close_cases}
use Rattle.guarantees.proofs.Entries.{set_entry_cases}
use Rattle.guarantees.proofs.Releases.{released_cases}
use Rattle.guarantees.proofs.Stored.{stores, run_patched, run_ranges}

-- Two devices that hold the same bytes in a slice.
abbrev pub SameSlice : Geometry → (s t : List ℕ) → (ψ : ℕ) → Type 0
SameSlice g s t ψ = (p : ℕ) → slice_start g ψ ≤ p → p < slice_start g ψ + slice_size g → get_or s p 0 ≡ get_or t p 0

-- What is held is equal, the devices have one length, and hold the same bytes in every mapped slice of an open volume.
pub record Alike (st st' : State) : Type 0 where
  pub held : st.held ≡ st'.held
  pub long : length st.device ≡ length st'.device
  pub slices : (i σ : ℕ) → OpenVolume st.held i → σ < (geometry st.held).p → table_entry st.held i σ < (geometry st.held).p
      → SameSlice (geometry st.held) st.device st'.device (table_entry st.held i σ)

-- ---- each call

module _ (s t : List ℕ) (h : Held) (alike : Alike (record { device = s; held = h }) (record { device = t; held = h })) where
  abbrev g : Geometry
  g = geometry h

  -- After patches the devices still have one length.
  still : (ps : List Patch) → length (patched ps s) ≡ length (patched ps t)
  still ps = patched-length ps s ∙ alike.long ∙ sym (patched-length ps t)

  -- A block of an open volume is the same on both.
  module _ (i a len : ℕ) (st : Stands (length s) h) (asked : Asked h i a len) (l : held_entry h i a < g.p) where
    ok : Allowed g
    ok = st.usable.allowed

    abbrev ψ₀ : ℕ
    ψ₀ = held_entry h i a

    same_part : (x n : ℕ) → x + n ≤ slice_size g → part (slice_start g ψ₀ + x) n s ≡ part (slice_start g ψ₀ + x) n t
    same_part x n fits =
        part_agree 0 s t (slice_start g ψ₀ + x) n alike.long
        (λ p lo hi. alike.slices i (slice_of g a) asked.volume (omega (arith, asked_slice st asked.volume asked.address)) l p
        (omega arith) (omega arith))

    same_iv : part (iv_start g ψ₀ (offset_of g a)) 16 s ≡ part (iv_start g ψ₀ (offset_of g a)) 16 t
    unfolding iv_start
    same_iv = same_part (16 * offset_of g a) 16 (iv_within_slice g ok _ (offset_of_lt g ok a))

    same_data : part (block_start g ψ₀ (offset_of g a)) g.b s ≡ part (block_start g ψ₀ (offset_of g a)) g.b t
    unfolding block_start
    same_data = same_part (g.b * (1 + offset_of g a)) g.b (block_within g ok _ (offset_of_lt g ok a))

  -- What is given only where a read is not refused is the same on both, if it is where the read is served.
  same_unless : {A : Type 0} (i a len : ℕ) (refusal : ℕ → A) (f : List ℕ → A) → (Stands (length s) h → Asked h i a len → f s ≡ f t)
      → unless (read_refusal_of (length s) h i a len) refusal (f s) ≡ unless (read_refusal_of (length t) h i a len) refusal (f t)
  same_unless i a len refusal f same =
      go (read_refusal_of (length s) h i a len) refl ∙ ap (λ (n : ℕ). unless (read_refusal_of n h i a len) refusal (f t)) alike.long
    where
      go : (r : ℕ) → read_refusal_of (length s) h i a len ≡ r
          → unless (read_refusal_of (length s) h i a len) refusal (f s) ≡ unless (read_refusal_of (length s) h i a len) refusal (f t)
      go zero e =
          let q = read_refusal_none (length s) _ _ _ i a len e in
          ap (unless (read_refusal_of (length s) h i a len) refusal) (same q.stands q.asked)
      go (suc r) e = rw e refl

  read_same : (i a room : ℕ) → read_model s h.maps h.owners h.session i a room ≡ read_model t h.maps h.owners h.session i a room
  unfolding read_model
  read_same i a room =
      same_unless i a room ReadResult.Refused (λ x. ReadResult.Filled (block_of x h.maps h.session i a))
      (λ st q. ap ReadResult.Filled (deciphered-same g (key_of h.session i) (held_entry h i a) (offset_of g a) s t
      (λ l. (same_iv i a room st q l, same_data i a room st q l))))

  find_same : (i a : ℕ) → find_model s h.maps h.owners h.session i a ≡ find_model t h.maps h.owners h.session i a
  unfolding find_model
  find_same i a =
      same_unless i a g.b (λ n. [])
      (λ x. choose (ltb (held_entry h i a) g.p) (part (block_start g (held_entry h i a) (offset_of g a)) g.b x) [])
      (λ st q. ⊎_elim (λ l. rw (lt-ltb (held_entry h i a) g.p l) (same_data i a g.b st q l))
      (λ l. rw (le-ltb (held_entry h i a) g.p l) refl) (below (held_entry h i a) g.p))

  same_outcome : (c : Call) → outcome (record { device = s; held = h }) c ≡ outcome (record { device = t; held = h }) c
  unfolding outcome
  same_outcome (Reading i a room) = ap (λ (r : ReadResult). idle h (Reads i a room r)) (read_same i a room)
  same_outcome (Finding i a) = ap (λ (r : List ℕ). idle h (Finds i a r)) (find_same i a)
  same_outcome (Writing i a text perm tape) =
      ap (λ (n : ℕ). as_event (Writes i a text perm tape) (write_model n h i a text perm tape)) alike.long
  same_outcome (Releasing i σ perm tape) = ap (λ (n : ℕ). as_event (Releases i σ perm tape) (release_model n h i σ perm tape)) alike.long
  same_outcome Closing = ap (λ (n : ℕ). as_event Closes (close_model n h)) alike.long

  -- The same outcome on both keeps them alike.
  abbrev After : {A : Type 0} → Outcome A → Type 0
  After o = Alike (left s o) (left t o)

  write_after : (i a : ℕ) (text perm tape : List ℕ) → After (write_model (length s) h i a text perm tape)
  unfolding patched
  write_after i a text perm tape = write_stores (length s) h i a text perm tape After (λ number count ne. alike) (λ w. filled) rewrites claims
    where
      filled : After (full h)
      filled = record { held = refl; long = alike.long; slices = alike.slices }

      rewrites : Writable (length s) h i a text perm → held_entry h i a < g.p → Enough (length tape) h.position 16
          → After (rewritten h i (held_entry h i a) (offset_of g a) text tape)
      rewrites w l enough =
          let o = rewritten h i (held_entry h i a) (offset_of g a) text tape in
          record {
            held = refl;
            long = still o.patches;
            slices = λ j τ oj hτ m p lo hi. patched_both p o.patches s t alike.long (alike.slices j τ oj hτ m p lo hi);
          }

      claims : Claimable (length s) h i a text perm tape → (ψ place : ℕ) → FreeAt h perm place → ψ < g.p
          → get_or h.owners ψ 0 ≡ 0 → Enough (length tape) h.position (claim_need g)
          → After (claimed h i (slice_of g a) (offset_of g a) ψ place text tape)
      claims c ψ place f hψ free enough = record { held = refl; long = still o.patches; slices = slices }
        where
          w : Writable (length s) h i a text perm
          w = c.writable

          o : Outcome WriteResult
          o = claimed h i (slice_of g a) (offset_of g a) ψ place text tape

          ivs : List ℕ
          ivs = part h.position g.b tape

          whole : length (claimed_bytes g.b g.s (key_of h.session i) ivs (offset_of g a) text) ≡ slice_size g
          whole =
              claimed_length g (key_of h.session i) ivs text (offset_of g a) (part_length tape h.position g.b (omega (arith, enough)))
              w.asked.size

          mine : (p : ℕ) → slice_start g ψ ≤ p → p < slice_start g ψ + slice_size g → Within p (ranges_of o.patches)
          mine p lo hi = unfold Within in inl (lo, rw whole hi)

          slices : (j τ : ℕ) → OpenVolume h j → τ < g.p → table_entry o.held j τ < g.p
              → SameSlice g (patched o.patches s) (patched o.patches t) (table_entry o.held j τ)
          slices j τ oj hτ m p lo hi =
              ⊎_elim
              (λ c. patched_written p o.patches s t alike.long (mine p (rw c.2 at lo) (rw c.2 at hi)))
              (λ c. patched_both p o.patches s t alike.long
              (alike.slices j τ oj hτ (rw c.1 at m) p (rw c.1 at lo) (rw c.1 at hi)))
              (set_entry_cases (length s) h i (slice_of g a) ψ w.stands w.asked.volume
              (asked_slice w.stands w.asked.volume w.asked.address).0 j τ hτ)

  -- After a release fewer slices are mapped.
  release_after : (i σ : ℕ) (perm tape : List ℕ) → After (release_model (length s) h i σ perm tape)
  unfolding patched
  release_after i σ perm tape =
      release_cases (length s) h i σ perm tape After (λ r e. alike)
      (λ w. let o = released h i σ (table_entry h i σ) (place_of (table_entry h i σ) perm) tape in
      record {
        held = refl;
        long = still o.patches;
        slices = λ j τ oj hτ m p lo hi.
            ⊎_elim (λ c. absurd (omega (arith, m, c.2, w.stands.usable.allowed.slices_most)))
            (λ c. patched_both p o.patches s t alike.long
            (alike.slices j τ oj hτ (rw c.1 at m) p (rw c.1 at lo) (rw c.1 at hi)))
            (released_cases (length s) h i σ perm tape w j τ hτ);
      })

  -- After a close nothing is mapped.
  close_after : After (close_model (length s) h)
  unfolding patched
  close_after =
      close_cases (length s) h After (λ r e. alike)
      (λ st. record {
        held = refl;
        long = alike.long;
        slices = λ j τ oj hτ m p lo hi.
            let inside : j * g.p + τ < 15 * g.p = digits_lt (omega (arith, st.usable.top)) hτ in
            absurd (omega (arith, m, get_or-replicate (15 * g.p) (j * g.p + τ) unmapped 0 inside, st.usable.allowed.slices_most));
      })

  after : (c : Call) → After (outcome (record { device = s; held = h }) c)
  unfolding outcome patched
  after (Reading i a room) = alike
  after (Finding i a) = alike
  after (Writing i a text perm tape) = let w = write_after i a text perm tape in record { held = refl; long = w.long; slices = w.slices }
  after (Releasing i σ perm tape) = let w = release_after i σ perm tape in record { held = refl; long = w.long; slices = w.slices }
  after Closing = record { held = refl; long = close_after.long; slices = close_after.slices }

-- ---- the list

alike_next : (st st' : State) → Alike st st' → (c : Call) → (outcome st c ≡ outcome st' c) × Alike (next st c) (next st' c)
alike_next st st' alike c =
    subst (λ (h : Held). (outcome st c ≡ outcome (with h) c) × Alike (next st c) (next (with h) c)) alike.held
    (same, subst (λ (o : Outcome Event). Alike (next st c) (left st'.device o)) same (after st.device st'.device st.held al c))
  where
    with : Held → State
    with h = record { device = st'.device; held = h }

    al : Alike st (with st.held)
    al = record { held = refl; long = alike.long; slices = alike.slices }

    same : outcome st c ≡ outcome (with st.held) c
    same = same_outcome st.device st'.device st.held al c

-- Both store the same.
same_stores : (cs : List Call) (st st' : State) → Alike st st' → stores st cs ≡ stores st' cs
unfolding stores
same_stores [] st st' al = refl
same_stores (c ∷ cs) st st' al =
    let s = alike_next st st' al c in
    ap₂ (λ (x l : List Patch). x ++ l) (ap (λ (o : Outcome Event). o.patches) s.0) (same_stores cs (next st c) (next st' c) s.1)

-- And so hold equal bytes where they wrote.
run-written : (cs : List Call) (st st' : State) → Alike st st'
    → (p : ℕ) → Within p (written_by_all (geometry st.held) (events st cs))
    → get_or (final st cs).device p 0 ≡ get_or (final st' cs).device p 0
run-written cs st st' al p w =
    ap (λ (x : List ℕ). get_or x p 0) (run_patched cs st)
    ∙ patched_written p (stores st cs) st.device st'.device al.long (rw (run_ranges cs st) w)
    ∙ ap (λ (x : List Patch). get_or (patched x st'.device) p 0) (same_stores cs st st' al)
    ∙ sym (ap (λ (x : List ℕ). get_or x p 0) (run_patched cs st'))

pub run_alike : (cs : List Call) (st st' : State) → Alike st st' → EqualRuns st st' cs
unfolding events positions final
run_alike [] st st' al =
    record { same_events = refl; same_positions = refl; same_held = al.held; written = run-written [] st st' al }
run_alike (c ∷ cs) st st' al =
    let s = alike_next st st' al c in
    let r = run_alike cs (next st c) (next st' c) s.1 in
    record {
      same_events = ap₂ (λ (x : Event) (l : List Event). x ∷ l) (ap (λ (o : Outcome Event). o.answer) s.0) r.same_events;
      same_positions = ap₂ (λ (x : ℕ) (l : List ℕ). x ∷ l) (ap (λ (o : Outcome Event). o.held.position) s.0) r.same_positions;
      same_held = r.same_held;
      written = run-written (c ∷ cs) st st' al;
    }
