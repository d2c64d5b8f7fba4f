-- A formatted stick opens with each of its keys to volumes of zeros, and points 2 and 3 hold from there on. Assumes nothing.
use Prim.Native.Nat.{ℕ, zero, suc, ◌+◌, ◌-◌, ◌*◌, ◌/◌, ◌%◌, ◌≤◌, ◌<◌}
use mathlib.Core.Path.{◌≡◌, refl, sym, ap, ap₂, subst, ◌∙◌}
use mathlib.Core.List.{List, [], ◌∷◌, ◌++◌, append-nil, append_assoc}
use mathlib.Core.Logic.{◌⊎◌, inl, inr, ⊎_elim}
use native.Mathlib.Omega.{arith}
use native.Mathlib.Nat.{mul_comm, mod-lt, div-add-mod', div-lt_iff_lt-mul}
use lib.ListN.{length, take, replicate, length-replicate}
use lib.Seq.{take_all, take-suc, append_snoc, length-take-le, get_or-take}
use borrow.Author.Tests.{eq-eqb}
use Rattle.ctr_spec.specs.CounterMode.{ctr}
use Rattle.gcm_spec.specs.Gcm.{Opened, WrongTag}
use Rattle.model.specs.declared.Geometry.{Geometry}
use Rattle.model.specs.Parts.{part, joined}
use Rattle.model.specs.Geometry.{Allowed, count_in, device_length, per_block, four_bytes, cell_start, cell_of, header_of}
use Rattle.model.specs.Session.{key_in, key_of, count_of, block_count, slice_of, offset_of, unmapped}
use Rattle.model.specs.Conditions.{CountFits, Counted, TablesFit, Enough, Names}
use Rattle.model.specs.Opening.{At, open_cell, first_cell, open_header, Chain, Keys, link, chain, stored_entry, Tables, load_maps, no_maps, no_owners}
use Rattle.model.specs.Opening.{slice_count, all_keys, all_counts, OpenOutcome}
use Rattle.model.specs.Session.{LentResult}
use Rattle.model.specs.Theorems.{HeaderText}
use Rattle.model.proofs.Parts.{part_length, part_left, part_split, joined_length, joined_part}
use Rattle.model.proofs.Bounds.{s_small, per_block_least, map_block_of_lem, slice_of_lt}
use Rattle.model.proofs.Tests.{below, bad_count-fits}
use Rattle.model.proofs.Keys.{all_counts_below}
use Rattle.model.proofs.Blocks.{deciphered_unmapped}
use Rattle.model.proofs.Cells.{first_cell_at}
use Rattle.model.proofs.MapBlocks.{marks_joined}
use Rattle.model.proofs.Seals.{cell_opens, header_opens, header_text, map-entry}
use Rattle.guarantees.specs.Rules.{First, format_rules, format_tape}
use Rattle.guarantees.specs.Making.{Draws, below_of, Made, cell_made, FormatAnswered, handed_wrong, lower_cell}
use Rattle.guarantees.specs.Points.{Handed, Lent, opens, map_entry, Blank, FormattedFor, FormattedOpens, FromMaking, Right, FormatPoints}
use Rattle.guarantees.proofs.Reflects.{eqb_reflects, reflects_stable, refutes_stable}
use Rattle.guarantees.proofs.Chains.{first-leads, leads_passed, leads_zero}
use Rattle.guarantees.proofs.Orders.{counted_guards}
use Rattle.guarantees.proofs.Tables.{load_marks}
use Rattle.guarantees.proofs.Opened.{open_refusal_taken, Served, opened_by, served_is}
use Rattle.guarantees.proofs.Points.{begins_due, points23}
use Rattle.guarantees.proofs.Making.{format_answered}

-- ---- a served formatting, taken apart

-- A device made with n keys and a count for each; no key opens a cell below its own.
record Stick (g : Geometry) (n : ℕ) (keys counts made : List ℕ) : Type 0 where
  good : Allowed g
  few : n ≤ 15
  keyed : length keys ≡ 32 * n
  counted : Counted g.p n counts
  drawn : List ℕ
  draws : Draws g n drawn
  lower : (i j : ℕ) → j < i → i < n → open_cell (key_in keys i) j (cell_made keys draws j) ≡ WrongTag
  stands : Made g n keys counts drawn draws made

-- Where no rule refuses, the geometry and the counts are allowed, and the keys are at most 15 of 32 bytes.
format_rules_none : (device : ℕ) (g : Geometry) (n keys : ℕ) (counts : List ℕ) (tape position : ℕ)
    → First (format_rules device g n keys counts tape position) 0 0
    → (Allowed g × Counted g.p n counts) × (n ≤ 15) × (keys ≡ 32 * n)
format_rules_none device g n keys counts tape position f =
    let p1 = leads_passed (λ e. omega (arith, e)) (first-leads (format_rules device g n keys counts tape position) f) in
    let p2 = leads_passed (λ e. omega (arith, e)) p1.1 in
    let p3 = leads_passed (λ e. omega (arith, e)) p2.1 in
    let p4 = leads_passed (λ e. omega (arith, e)) p3.1 in (
      refutes_stable (counted_guards g n counts).decides p1.0,
      ⊎_elim (λ l. absurd (p3.0 (inr l))) (λ l. l) (below 15 n),
      reflects_stable (eqb_reflects keys (32 * n)) p4.0,
    )

-- A served formatting has made a stick.
answered_made : {device : ℕ} {g : Geometry} {n : ℕ} {keys counts tape : List ℕ} {position : ℕ} {r : LentResult}
    → FormatAnswered device g n keys counts tape position r → (made : List ℕ) (after : ℕ) → r ≡ LentResult.Served made after
    → Stick g n keys counts made
answered_made (handed_wrong r ne f) made after e = let z : ◌≡◌ {A = ℕ} 0 1 = cc in absurd (omega arith)
answered_made (lower_cell f d i j vmk j<i i<n o) made after e = let z : ◌≡◌ {A = ℕ} 0 1 = cc in absurd (omega arith)
answered_made {device} {g} {n} {keys} {counts} {tape} {position} (FormatAnswered.served f d lower device' m) made after e =
    let q : device' ≡ made = cc in
    let w = format_rules_none device g n (length keys) counts (length tape) position f in
    record {
      good = w.0.0;
      few = w.1;
      keyed = w.2;
      counted = w.0.1;
      drawn = _;
      draws = d;
      lower = lower;
      stands = rw q at m;
    }

-- ---- what stands on the device opens

module _ (g : Geometry) (n : ℕ) (keys counts made : List ℕ) (mk : Stick g n keys counts made) where
  abbrev d : Draws g n mk.drawn
  d = mk.draws

  abbrev header : ℕ → List ℕ
  header = header_of g made

  -- A cell is its IV, ciphertext and tag.
  cell_is : (j : ℕ) → j < n → cell_of made j ≡ cell_made keys d j
  cell_is j l =
      let q = mk.stands.cell j l in
      part_split made (cell_start j) 12 48 (cell_start j + 12) refl
      ∙ ap (λ (y : List ℕ). part (cell_start j) 12 made ++ y) (part_split made (cell_start j + 12) 32 16 (cell_start j + 12 + 32) refl)
      ∙ rw (q.tag, q.cipher, mk.stands.cell_iv_lem j l) refl

  -- Key i opens cell i, and no lower one.
  lowest_is : (i : ℕ) → i < n → first_cell (key_in keys i) (cell_of made) 15 0 ≡ At i (d.vmk i)
  lowest_is i l =
      first_cell_at (key_in keys i) (cell_of made) i (d.vmk i) (cell_opens made (key_in keys i) (d.vmk i) i (mk.stands.cell i l))
      (λ j h. ap (open_cell (key_in keys i) j) (cell_is j (omega arith)) ∙ mk.lower i j h l) 15 0 (omega arith) (omega (arith, mk.few))

  -- The text of header j, and its parts.
  abbrev text : ℕ → List ℕ
  text j = d.vek j ++ (below_of d.vmk j ++ (four_bytes (count_in counts j) ++ four_bytes g.s))

  below_of_length : (j : ℕ) → j < n → length (below_of d.vmk j) ≡ 32
  below_of_length zero l = refl
  below_of_length (suc j) l = d.vmk_long j (omega arith)

  count_fits : (j : ℕ) → j < n → CountFits g.p (count_in counts j)
  count_fits = mk.counted.1

  text_parts : (j : ℕ) → j < n → HeaderText (text j) (d.vek j) (below_of d.vmk j) (count_in counts j) g.s
  text_parts j l =
      header_text (d.vek j) (below_of d.vmk j) (count_in counts j) g.s (d.vek_long j l) (below_of_length j l)
      (omega (arith, (count_fits j l).1, mk.good.slices_most)) (omega (arith, s_small g mk.good))

  -- Header j opens and fits.
  link_is : (j : ℕ) → j < n → (next : List ℕ → Chain) → link g (open_header (d.vmk j) j (header j)) next ≡ next (text j)
  link_is j l next =
      ap (λ (o : Opened). link g o next) (header_opens g mk.good made (d.vmk j) (text j) j (mk.stands.header j l))
      ∙ rw ((text_parts j l).third, (text_parts j l).fourth, bad_count-fits g.p (count_in counts j) (count_fits j l), eq-eqb g.s g.s refl) refl

  -- The counts of volumes 0 to j, from those of volumes 0 to j - 1.
  counts_more : (j : ℕ) → j < n → (above : List ℕ) → take j counts ++ (count_in counts j ∷ above) ≡ take (suc j) counts ++ above
  counts_more j l above =
      sym (append_snoc (take j counts) (count_in counts j) above)
      ∙ ap (λ (c : List ℕ). c ++ above) (sym (take-suc counts j 0 (omega (arith, mk.counted.0))))

  -- The chain from header j down gives the VEKs and the counts of volumes 0 to j.
  chain_is : (j : ℕ) → j < n → (veks above : List ℕ)
      → chain g header j (d.vmk j) veks above ≡ Keys (joined (suc j) d.vek ++ veks) (take (suc j) counts ++ above)
  unfolding chain joined
  chain_is zero l veks above =
      link_is zero l _
      ∙ ap (λ (v : List ℕ). Keys (v ++ veks) (slice_count (text zero) ∷ above)) (text_parts zero l).first
      ∙ ap (λ (c : ℕ). Keys (d.vek zero ++ veks) (c ∷ above)) (text_parts zero l).third
      ∙ ap (Keys (d.vek zero ++ veks)) (counts_more zero l above)
  chain_is (suc j) l veks above =
      link_is (suc j) l _
      ∙ ap₂ (λ (v w : List ℕ). chain g header j w (v ++ veks) (slice_count (text (suc j)) ∷ above)) (text_parts (suc j) l).first
      (text_parts (suc j) l).second
      ∙ ap (λ (c : ℕ). chain g header j (d.vmk j) (d.vek (suc j) ++ veks) (c ∷ above)) (text_parts (suc j) l).third
      ∙ chain_is j (omega arith) (d.vek (suc j) ++ veks) (count_in counts (suc j) ∷ above)
      ∙ ap₂ Keys (sym (append_assoc (joined (suc j) d.vek) (d.vek (suc j)) veks)) (counts_more (suc j) l above)

  -- The data keys of an opening to volume i.
  abbrev data_keys : ℕ → List ℕ
  data_keys i = all_keys (joined (suc i) d.vek) i

  key_is : (i j : ℕ) → i < n → j ≤ i → key_in (data_keys i) j ≡ d.vek j
  key_is i j l h =
      part_left (joined (suc i) d.vek) (replicate (32 * (14 - i)) 0) (32 * j) 32 (omega (arith, joined_length 32 (suc i) d.vek each))
      ∙ ap (λ (y : ℕ). part y 32 (joined (suc i) d.vek)) (mul_comm 32 j)
      ∙ joined_part 32 (suc i) d.vek each j (omega arith)
    where
      each : (v : ℕ) → v < suc i → length (d.vek v) ≡ 32
      each v q = d.vek_long v (omega arith)

  -- And its counts.
  abbrev held_counts : ℕ → List ℕ
  held_counts i = all_counts (take (suc i) counts) i

  count_is : (i j : ℕ) → i < n → j ≤ i → count_in (held_counts i) j ≡ count_in counts j
  count_is i j l h =
      all_counts_below (take (suc i) counts) i (omega (arith, length-take-le (suc i) counts (omega (arith, mk.counted.0))))
      (omega (arith, mk.few)) j h
      ∙ get_or-take (suc i) counts j 0 (omega arith)

  -- Every stored entry is the mark.
  stored_is : (j σ : ℕ) → j < n → σ < g.p → stored_entry g (d.vek j) (header j) σ ≡ unmapped
  stored_is j σ l h =
      let t = σ / per_block g in
      let iv = d.map_iv j t in
      let lt = map_block_of_lem g mk.good σ h in
      ap (stored_entry g (d.vek j) (header j)) (sym (div-add-mod' σ (per_block g)))
      ∙ map-entry g mk.good made (d.vek j) iv (λ e. unmapped) j t (σ % per_block g) lt (mod-lt σ (per_block_least g mk.good))
      (d.map_iv_long j t l lt) (omega arith)
      (mk.stands.map j t l lt ∙ ap (λ (y : List ℕ). iv ++ ctr (d.vek j) iv y) (sym (marks_joined g mk.good)))

  -- An opening to volume i reads marks alone.
  entry_is : (i j σ : ℕ) → i < n → j ≤ i → σ < g.p → stored_entry g (key_in (data_keys i) j) (header j) σ ≡ unmapped
  entry_is i j σ l h hσ =
      ap (λ (key : List ℕ). stored_entry g key (header j) σ) (key_is i j l h) ∙ stored_is j σ (omega arith) hσ

  -- Its tables hold nothing.
  maps_are : (i : ℕ) → i < n → load_maps g header (data_keys i) (held_counts i) i ≡ Tables (no_maps g) (no_owners g)
  maps_are i l =
      load_marks g.p (held_counts i) _ ((i + 1) * g.p) 0 (no_maps g) (no_owners g)
      (λ m lo hi. let r : m / g.p < i + 1 = (div-lt_iff_lt-mul mk.good.slices_least).1 (omega arith) in
      entry_is i (m / g.p) (m % g.p) l (omega arith) (mod-lt m mk.good.slices_least))

-- ---- the opening

module _ (made : List ℕ) (x : Handed) (l : Lent) (i : ℕ) (n : ℕ) (keys counts : List ℕ) (mk : Stick x.geometry n keys counts made)
    (hi : i < n) (key : x.key ≡ key_in keys i) (names : Names x.geometry.p x.perm)
    (tables : TablesFit x.geometry (length l.maps) (length l.owners)) where
  abbrev g₀ : Geometry
  g₀ = x.geometry

  -- The opening with key i, step by step.
  abbrev made_served : Served made x l i
  made_served =
      record {
        vmk = mk.draws.vmk i;
        keys = joined (suc i) mk.draws.vek;
        counts = take (suc i) counts;
        maps = no_maps g₀;
        owners = no_owners g₀;
        accepted =
            open_refusal_taken made x l (record {
              good = mk.good;
              long = mk.stands.long;
              keyed = ap length key ∙ part_length keys (32 * i) 32 (omega (arith, mk.keyed));
              tables = tables;
              names = names;
            });
        lowest = ap (λ (k : List ℕ). first_cell k (cell_of made) 15 0) key ∙ lowest_is g₀ n keys counts made mk i hi;
        headers =
            chain_is g₀ n keys counts made mk i hi [] []
            ∙ ap₂ Keys (append-nil (joined (suc i) mk.draws.vek)) (append-nil (take (suc i) counts));
        tables = maps_are g₀ n keys counts made mk i hi;
      }

  made_blank : Blank made x l i counts
  made_blank =
      record {
        served = ap (λ (o : OpenOutcome). o.answer) is;
        maps = ap (λ (o : OpenOutcome). o.maps) is;
        owners = ap (λ (o : OpenOutcome). o.owners) is;
        counted = λ j hj. ap (λ (o : OpenOutcome). count_of o.session j) is ∙ count_is g₀ n keys counts made mk i j hi hj;
        zeros = λ j a hj ha.
            deciphered_unmapped g₀ (key_of (opens made x l).session j) (map_entry made x l j (slice_of g₀ a)) (offset_of g₀ a) made
            (omega (arith, mk.good.slices_most, entry j (slice_of g₀ a) hj (slice j a hj ha)));
      }
    where
      is : opens made x l ≡ opened_by made x l i made_served
      is = served_is made x l i made_served

      entry : (j σ : ℕ) → j ≤ i → σ < g₀.p → map_entry made x l j σ ≡ unmapped
      entry j σ hj hσ =
          ap (λ (o : OpenOutcome). stored_entry g₀ (key_of o.session j) (header_of g₀ made j) σ) is
          ∙ entry_is g₀ n keys counts made mk i j σ hi hj hσ

      slice : (j a : ℕ) → j ≤ i → a < count_in counts j * g₀.s → slice_of g₀ a < g₀.p
      slice j a hj ha =
          omega (arith, slice_of_lt g₀ mk.good (count_in counts j) a ha, (count_fits g₀ n keys counts made mk j (omega arith)).1)

  made_runs : FromMaking made x l i
  made_runs =
      record {
        due = λ cs.
            (begins_due made x l i made_served (λ j a. replicate g₀.b 0)
            (λ j a hj ha. sym (made_blank.zeros j a hj (subst (λ (m : ℕ). a < m) (blocks_are j hj) ha))) cs).0;
        guarantee = points23 made x l i made_blank.served;
      }
    where
      blocks_are : (j : ℕ) → j ≤ i → block_count (opens made x l).session j ≡ count_in counts j * g₀.s
      blocks_are j hj =
          ap (λ (o : OpenOutcome). block_count o.session j) (served_is made x l i made_served)
          ∙ ap (λ (c : ℕ). c * g₀.s) (count_is g₀ n keys counts made mk i j hi hj)

-- ---- formatting

-- Where two keys are equal, the higher opens the lower one's cell.
equal_opens : (g : Geometry) (n : ℕ) (keys counts made : List ℕ) (mk : Stick g n keys counts made) (i j : ℕ) → j < i → i < n
    → key_in keys i ≡ key_in keys j → ⊥
equal_opens g n keys counts made mk i j l h e =
    let shut = ap (λ (k : List ℕ). open_cell k j (cell_made keys mk.draws j)) (sym e) ∙ mk.lower i j l h in
    let opens =
    sym (ap (open_cell (key_in keys j) j) (cell_is g n keys counts made mk j (omega arith)))
    ∙ cell_opens made (key_in keys j) (mk.draws.vmk j) j (mk.stands.cell j (omega arith)) in
    let z : ◌≡◌ {A = ℕ} 0 1 = cc in
    omega arith

-- Where what is handed in is right, no rule applies; what is left is 24.
module _ {g : Geometry} {n : ℕ} {keys counts tape : List ℕ} {position : ℕ} (ok : Right g n keys counts tape position) where
  right_passes : (r : ℕ) → First (format_rules (device_length g) g n (length keys) counts (length tape) position) r 0 → r ≡ 0
  right_passes r f =
      leads_zero (first-leads (format_rules (device_length g) g n (length keys) counts (length tape) position) f) (
        λ k. k (ok.allowed, ok.counted),
        (
          λ k. k refl,
          (
            ⊎_elim (λ e. omega (arith, e, ok.least)) (λ l. omega (arith, l, ok.most)),
            (λ k. k ok.keyed, (λ k. k ok.enough, tt)),
          ),
        ),
      )

  answered_right : {r : LentResult} → FormatAnswered (device_length g) g n keys counts tape position r
      → ((made : List ℕ) × (r ≡ LentResult.Served made (position + format_tape g n))) ⊎ (r ≡ LentResult.Refused 24)
  answered_right (handed_wrong r ne f) = absurd (ne (right_passes r f))
  answered_right (lower_cell f d i j vmk j<i i<n o) = inr refl
  answered_right (FormatAnswered.served f d lower made m) = inl (made, refl)

  answered_equal : (i j : ℕ) → j < i → i < n → key_in keys i ≡ key_in keys j
      → {r : LentResult} → FormatAnswered (device_length g) g n keys counts tape position r → r ≡ LentResult.Refused 24
  answered_equal i j l h e (handed_wrong r ne f) = absurd (ne (right_passes r f))
  answered_equal i j l h e (lower_cell f d i' j' vmk j<i i<n o) = refl
  answered_equal i j l h e (FormatAnswered.served f d lower made m) =
      absurd (equal_opens g n keys counts made (answered_made (FormatAnswered.served f d lower made m) made (position + format_tape g n) refl) i j l h e)

-- With one key no cell is below the first.
answered_one : {g : Geometry} {key counts tape : List ℕ} {position : ℕ} → Right g 1 key counts tape position
    → {r : LentResult} → FormatAnswered (device_length g) g 1 key counts tape position r
    → (made : List ℕ) × (r ≡ LentResult.Served made (position + format_tape g 1))
answered_one ok (handed_wrong r ne f) = absurd (ne (right_passes ok r f))
answered_one ok (lower_cell f d i j vmk j<i i<1 o) = absurd (omega arith)
answered_one ok (FormatAnswered.served f d lower made m) = (made, refl)

-- One count that is allowed is one for the one key.
one_count : {p n : ℕ} → CountFits p n → (i : ℕ) → i < 1 → CountFits p (count_in (n ∷ []) i)
one_count fits zero l = fits
one_count fits (suc i) l = absurd (omega arith)

-- Formatted is made.
stick : {made : List ℕ} {x : Handed} {l : Lent} {i : ℕ} (f : FormattedFor made x l i) → Stick x.geometry f.n f.keys f.counts made
stick {made} {x} f =
    answered_made (format_answered f.device x.geometry f.n f.keys f.counts f.tape f.position) made f.after f.formatted

blank : FormattedOpens
blank made x l i f = made_blank made x l i f.n f.keys f.counts (stick f) f.below f.key f.names f.tables

pub format_points : FormatPoints
format_points =
    record {
      blank = blank;
      runs = λ made x l i f. made_runs made x l i f.n f.keys f.counts (stick f) f.below f.key f.names f.tables;
      right = λ g n keys counts tape position ok. answered_right ok (format_answered (device_length g) g n keys counts tape position);
      one_key = λ g key counts tape position ok. answered_one ok (format_answered (device_length g) g 1 key counts tape position);
      equal_keys = λ g n keys counts tape position ok i j l h e.
          answered_equal ok i j l h e (format_answered (device_length g) g n keys counts tape position);
      some_opens = λ x l n ok long fits names tables.
          let g = x.geometry in
          let need = format_tape g 1 in
          let zeros : List ℕ = replicate need 0 in
          let enough : Enough (length zeros) 0 need = omega (arith, length-replicate {A = ℕ} need 0) in
          let given : Right g 1 x.key (n ∷ []) zeros 0 =
          record {
            allowed = ok;
            least = omega arith;
            most = omega arith;
            keyed = long;
            counted = (refl, λ i l. one_count fits i l);
            enough = enough;
          } in
          let m = answered_one given (format_answered (device_length g) g 1 x.key (n ∷ []) zeros 0) in
          let f : FormattedFor m.0 x l 0 =
          record {
            device = device_length g;
            n = 1;
            keys = x.key;
            counts = n ∷ [];
            tape = zeros;
            position = 0;
            after = 0 + need;
            formatted = m.1;
            below = omega arith;
            key = sym (take_all 32 x.key (omega arith));
            names = names;
            tables = tables;
          } in
          let opened = blank m.0 x l 0 f in
          (m.0, opened.served, opened.counted 0 (omega arith));
    }
