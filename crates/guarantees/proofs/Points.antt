-- Points 2 and 3, from a served opening on. Assumes nothing.
use Prim.Native.Nat.{ℕ, ◌+◌, ◌-◌, ◌≤◌, ◌<◌}
use mathlib.Core.Path.{◌≡◌, refl, sym, ap, ◌∙◌, subst}
use mathlib.Core.List.{List}
use mathlib.Core.Bool.{true}
use native.Mathlib.Omega.{arith}
use lib.ListN.{length, get_or}
use lib.Seq.{get_or-take, get_or-drop}
use Rattle.model.specs.declared.Geometry.{Geometry}
use Rattle.model.specs.declared.Session.{Session}
use Rattle.model.specs.Parts.{part}
use Rattle.model.specs.Geometry.{header_of, slice_start, slice_size}
use Rattle.model.specs.declared.Change.TheVariants.{Claimed}
use Rattle.model.specs.Session.{Held, Outcome, geometry, key_of, block_count, entry, slice_of, offset_of}
use Rattle.model.specs.Write.{WriteResult, write_model}
use Rattle.model.specs.Opening.{OpenOutcome, stored_entry}
use Rattle.model.specs.Read.{deciphered}
use Rattle.guarantees.specs.Runs.{State, Call, outcome, final, events, written_by_all, Within}
use Rattle.guarantees.specs.Arrays.{Arrays, arrays_after_all, AllDue}
use Rattle.guarantees.specs.Rules.{table_entry}
use Rattle.guarantees.specs.Openings.{AllUnlocked}
use Rattle.guarantees.specs.Points.{Handed, Lent, opens, holds, begin, map_on, map_entry, first_arrays, Opens, Run, Agree}
use Rattle.guarantees.specs.Points.{Points23, NoSliceTwice}
use Rattle.model.proofs.Requests.{asked_slice}
use Rattle.guarantees.proofs.Opened.{holding, Served, served, served_is, opened_by, served_sound, served_stands, served_opens, served_entry}
use Rattle.guarantees.proofs.Opened.{served_taken, served_cell, served_keys, served-same}
use Rattle.guarantees.proofs.Cases.{write_stores}
use Rattle.guarantees.proofs.Point2.{Open, Kept, open_now, kept_open, run_due}
use Rattle.guarantees.proofs.Stored.{run_stored, run-held, run-kept}
use Rattle.guarantees.proofs.Again.{run_again}
use Rattle.guarantees.proofs.Point3.{SameSlice, Alike, run_alike}

-- ---- what holds right after the opening

module _ (s : List ℕ) (x : Handed) (l : Lent) (k : ℕ) (sv : Served s x l k) where
  abbrev g : Geometry
  g = x.geometry

  is : opens s x l ≡ opened_by s x l k sv
  is = served_is s x l k sv

  -- Entries, arrays and state as an opening's outcome gives them.
  abbrev entries_by : OpenOutcome → ℕ → ℕ → ℕ
  entries_by o i σ = stored_entry g (key_of o.session i) (header_of g s i) σ

  abbrev arrays_by : OpenOutcome → Arrays
  arrays_by o i a = deciphered g (key_of o.session i) (entries_by o i (slice_of g a)) (offset_of g a) s

  abbrev state_by : OpenOutcome → State
  state_by o = record { device = s; held = holding x.position o }

  -- The table has what the map on the device has.
  table_is : (i σ : ℕ) → i ≤ k → σ < g.p → map_entry s x l i σ ≡ table_entry (holds s x l) i σ
  table_is i σ hi hσ =
      subst (λ (o : OpenOutcome). entries_by o i σ ≡ table_entry (holding x.position o) i σ) (sym is) (served_entry s x l k sv i σ hi hσ)

  -- Arrays that have, on the open volumes, what stands on the device.
  abbrev Begins : Arrays → OpenOutcome → Type 0
  Begins arrays o = (j b : ℕ) → j ≤ k → b < block_count o.session j → arrays j b ≡ arrays_by o j b

  begins : (arrays : Arrays) → Begins arrays (opens s x l) → Kept (begin s x l) arrays (begin s x l)
  begins arrays same =
      kept_open (subst (λ (o : OpenOutcome). Begins arrays o → Open (state_by o) arrays (state_by o)) (sym is)
      (λ first. record {
        stands = served_stands s x l k sv;
        sound = served_sound s x l k sv;
        session = refl;
        header = λ a n fits out. refl;
        on_device_lem = λ i σ oi hσ. served_entry s x l k sv i σ oi hσ;
        holds = λ j b oj hb.
            first j b oj hb
            ∙ ap (λ (ψ : ℕ). deciphered g (key_of (opened_by s x l k sv).session j) ψ (offset_of g b) s)
            (served_entry s x l k sv j (slice_of g b) oj (omega (arith, asked_slice (served_stands s x l k sv) oj hb)));
      })
      same)

  geometry_is : geometry (holds s x l) ≡ g
  geometry_is = ap (λ (o : OpenOutcome). o.session.geometry) is

  -- Every answer of a list is the one that such arrays give.
  pub begins_due : (arrays : Arrays) → Begins arrays (opens s x l) → (cs : List Call)
      → AllDue g arrays (begin s x l) cs × Kept (begin s x l) (arrays_after_all g arrays (events (begin s x l) cs)) (final (begin s x l) cs)
  begins_due arrays same cs =
      subst (λ (g' : Geometry). AllDue g' arrays (begin s x l) cs
      × Kept (begin s x l) (arrays_after_all g' arrays (events (begin s x l) cs)) (final (begin s x l) cs)) geometry_is
      (run_due (begin s x l) cs (begin s x l) arrays (begins arrays same))

  top_is : (holds s x l).session.k ≡ k
  top_is = ap (λ (o : OpenOutcome). o.session.k) is

  run : (cs : List Call) → Run s x l k cs
  run cs =
      let r = begins_due (first_arrays s x l) (λ j b hj hb. refl) cs in
      record {
        due = r.0;
        held = run-held cs (begin s x l);
        stored = run_stored cs (begin s x l);
        kept = subst KeptOutside geometry_is (run-kept cs (begin s x l));
        on_device_lem = λ live i σ hi hσ.
            let op = open_now r.1 live in
            subst (Same i σ (opens s x l).session) geometry_is (subst Stored op.session op.on_device_lem i σ (rw top_is hi)) hσ;
        again = run_again s x l k sv _ _ r.1;
      }
    where
      after : State
      after = final (begin s x l) cs

      -- An entry on the device is that of the table, and so is each of the open volumes.
      Same : (i σ : ℕ) → Session → Geometry → Type 0
      Same i σ c g' = σ < g'.p → map_on after.device g' c i σ ≡ entry after.held.maps g' i σ

      Stored : Session → Type 0
      Stored c = (i σ : ℕ) → i ≤ c.k → Same i σ c c.geometry

      KeptOutside : Geometry → Type 0
      KeptOutside g' =
          (p : ℕ) → (Within p (written_by_all g' (events (begin s x l) cs)) → ⊥) → get_or (final (begin s x l) cs).device p 0 ≡ get_or s p 0

-- ---- two devices

-- A byte of a part.
byte_of : (s t : List ℕ) (a n p : ℕ) → part a n s ≡ part a n t → a ≤ p → p < a + n → get_or s p 0 ≡ get_or t p 0
byte_of s t a n p e lo hi = sym (one s) ∙ ap (λ (l : List ℕ). get_or l (p - a) 0) e ∙ one t
  where
    one : (l : List ℕ) → get_or (part a n l) (p - a) 0 ≡ get_or l p 0
    one l =
        let q : a + (p - a) ≡ p = omega arith in
        get_or-take n _ (p - a) 0 (omega arith) ∙ get_or-drop a l (p - a) 0 ∙ ap (λ (i : ℕ). get_or l i 0) q

module _ (s t : List ℕ) (x : Handed) (l l' : Lent) (k : ℕ) (sv : Served s x l k) (ag : Agree s t x l k)
    (ml : length l'.maps ≡ length l.maps) (ol : length l'.owners ≡ length l.owners) where
  second : (b : Served t x l' k) × (opened_by t x l' k b ≡ opened_by s x l k sv)
  second =
      let w = served_taken s x l k sv in
      served-same s t x l l' k
      (record {
        good = w.good;
        long = sym ag.long ∙ w.long;
        keyed = w.keyed;
        tables = (ml ∙ w.tables.0, ol ∙ w.tables.1);
        names = w.names;
      })
      ag.cells ag.headers sv

  -- Both openings have one outcome.
  both : opens s x l ≡ opens t x l'
  both = served_is s x l k sv ∙ sym (served_is t x l' k second.0 ∙ second.1)

  alike : Alike (begin s x l) (begin t x l')
  alike =
      record { held = ap (holding x.position) both; long = ag.long; slices = subst Slices (sym (geometry_is s x l k sv)) slices }
    where
      entry_of : ℕ → ℕ → ℕ
      entry_of i σ = table_entry (holds s x l) i σ

      Slices : Geometry → Type 0
      Slices g = (i σ : ℕ) → i ≤ (holds s x l).session.k → σ < g.p → entry_of i σ < g.p → SameSlice g s t (entry_of i σ)

      slices : Slices x.geometry
      slices i σ oi hσ less p lo hi =
          let hi' : i ≤ k = rw (top_is s x l k sv) at oi in
          byte_of s t (slice_start x.geometry (entry_of i σ)) (slice_size x.geometry) p
          (ag.slices i (entry_of i σ) hi' less (σ, hσ, table_is s x l k sv i σ hi' hσ)) lo hi

pub points23 : Points23
points23 s x l k e =
    let sv = served s x l k e in
    let is = served_is s x l k sv in
    record {
      vmk = sv.vmk;
      lowest = served_cell s x l k sv;
      keys =
          subst (λ (o : OpenOutcome). AllUnlocked s x.geometry k sv.vmk o.session.keys o.session.counts) (sym is)
          (served_keys s x l k sv);
      leaves =
          subst (λ (o : OpenOutcome). Opens x k (entries_by s x l k sv o) (holding x.position o)) (sym is) (served_opens s x l k sv);
      array = run s x l k sv;
      twin = λ t l' ag ml ol.
          let b = second s t x l l' k sv ag ml ol in (
            ap (λ (o : OpenOutcome). o.answer) (served_is t x l' k b.0),
            λ cs. (
              run_alike cs (begin s x l) (begin t x l') (alike s t x l l' k sv ag ml ol),
              run t x l' k b.0 cs,
            ),
          );
    }

-- ---- the accident

-- A claim takes a slice that is free.
claim_free : (n : ℕ) (h : Held) (i a : ℕ) (text perm tape : List ℕ) (ψ probes : ℕ)
    → (write_model n h i a text perm tape).answer ≡ WriteResult.Served (Claimed ψ) probes
    → (h.session.opened ≡ true) × (ψ < (geometry h).p) × (get_or h.owners ψ 0 ≡ 0)
claim_free n h i a text perm tape ψ probes =
    write_stores n h i a text perm tape (λ (o : Outcome WriteResult). o.answer ≡ WriteResult.Served (Claimed ψ) probes → Free)
    (λ number count ne e. let z : ◌≡◌ {A = ℕ} 0 1 = cc in absurd (omega arith))
    (λ w e. let z : ◌≡◌ {A = ℕ} 0 1 = cc in absurd (omega arith))
    (λ w l enough e. let z : ◌≡◌ {A = ℕ} 0 1 = cc in absurd (omega arith))
    (λ c φ place f hφ free enough e. let q : φ ≡ ψ = cc in (c.writable.stands.usable.opened, rw q at hφ, rw q at free))
  where
    Free : Type 0
    Free = (h.session.opened ≡ true) × (ψ < (geometry h).p) × (get_or h.owners ψ 0 ≡ 0)

pub no_slice_twice : NoSliceTwice
unfolding outcome
no_slice_twice s x l k e cs =
    let u = final (begin s x l) cs in
    let kept = (begins_due s x l k (served s x l k e) (first_arrays s x l) (λ j b hj hb. refl) cs).1 in
    record {
      apart = λ live. (open_now kept live).sound.apart;
      fresh = λ i a text perm tape ψ probes w j hj m.
          let f = claim_free (length u.device) u.held i a text perm tape ψ probes (cc) in
          omega (arith, (open_now kept f.0).sound.apart.owner j ψ hj f.1 m, f.2);
    }
