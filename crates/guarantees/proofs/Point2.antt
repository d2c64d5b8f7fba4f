-- Point 2: every open volume is an array of blocks, and every answer is the one due, over every list of calls. Assumes nothing.
use Prim.Native.Nat.{ℕ, suc, ◌+◌, ◌*◌, ◌≤◌, ◌<◌}
use mathlib.Core.Path.{◌≡◌, refl, sym, ap, ◌∙◌, subst}
use mathlib.Core.List.{List, [], ◌∷◌}
use mathlib.Core.Bool.{true}
use mathlib.Core.Logic.{◌⊎◌, inl, inr, ⊎_elim}
use native.Mathlib.Omega.{arith}
use native.Mathlib.Nat.{le_refl, mul-le-mul_left, mul-le-mul_right}
use lib.ListN.{length, get_or, set}
use borrow.Author.Tests.{eq-eqb, ne_eqb}
use Rattle.refusals.specs.Numbers.{refuse}
use Rattle.model.specs.declared.Geometry.{Geometry}
use Rattle.model.specs.declared.Session.{Session}
use Rattle.model.specs.Parts.{part, overlay, patched}
use Rattle.model.specs.Geometry.{Allowed, map_blocks, header_blocks, header_start, map_start, map_block_start, slice_start, iv_start, block_start}
use Rattle.model.specs.Session.{Held, Outcome, geometry, key_of, count_of, block_count, slot, slice_of, offset_of, unmapped, idle, starting_at}
use Rattle.model.specs.Maps.{map_block_of, map_block}
use Rattle.model.specs.Opening.{stored_entry}
use Rattle.model.specs.Read.{deciphered, block_of, read_refusal, read_model, find_model}
use Rattle.model.specs.Write.{WriteResult, claim_need, rewritten, claimed, full, claimed_bytes, write_refusal, write_model}
use Rattle.model.specs.Permutation.{place_of}
use Rattle.model.specs.Release.{ReleaseResult, released, release_model}
use Rattle.model.specs.Close.{CloseResult, close_model}
use Rattle.guarantees.specs.Runs.{State, Call, Reading, Finding, Writing, Releasing, Closing, Writes, Releases, outcome, next, events, final, left}
use Rattle.model.specs.Conditions.{Usable, Enough, Names}
use Rattle.guarantees.specs.Rules.{release_rules, close_rules, held_entry, table_entry, FreeAt, HeldFits}
use Rattle.guarantees.specs.Arrays.{Arrays, put, cleared, arrays_after, arrays_after_all, Fits, Unfit, ReadDue, FindDue, found, nowhere}
use Rattle.guarantees.specs.Arrays.{WriteDue, rewrite_short, claim_short, no_slice, ReleaseDue, freed, release_short, CloseDue, done, Due, AllDue}
use Rattle.model.proofs.Parts.{part_length, overlay_before, overlay_length, patched-length}
use Rattle.model.proofs.Tests.{equal}
use Rattle.model.proofs.Bounds.{offset_of_lt, map_block_of_lem}
use Rattle.model.proofs.Refused.{unless-cases}
use Rattle.model.proofs.Requests.{read_refusal_none, read_refusal_served, asked_slice}
use Rattle.model.proofs.Blocks.{deciphered_unmapped}
use Rattle.guarantees.proofs.Reflects.{ltb_reflects, eqb_reflects, bool_reflects, reflects_stable, choose_reflects}
use Rattle.guarantees.proofs.Chains.{Leads, here, later}
use Rattle.guarantees.proofs.Orders.{names_stable, early_rules, write_leads, release_leads, close_leads}
use Rattle.guarantees.proofs.Places.{Apart, slice_first}
use Rattle.guarantees.proofs.SoundTables.{SoundTables, OpenVolume, sound_fits}
use Rattle.guarantees.proofs.Blocks.{same_address, restored_here, restored_other, claimed_text}
use Rattle.guarantees.proofs.Blocks.{filled_here, filled_other}
use Rattle.guarantees.proofs.Cases.{Stands, stands_at, Asked, Ready, read_refusal_of, write_refusal_of}
use Rattle.guarantees.proofs.Cases.{Writable, write_cases, write_stores, Releasable, release_cases, close_cases}
use Rattle.guarantees.proofs.Entries.{set_slice, set_entry, set_entry_other}
use Rattle.guarantees.proofs.Claims.{claimed_stands, free_new, claimed_sound}
use Rattle.guarantees.proofs.Releases.{released_stands, released_cases, released_sound}
use Rattle.guarantees.proofs.MapBlocks.{maps_kept, deciphered_kept}
use Rattle.guarantees.proofs.OnDevice.{OnDevice, set_on_device}

-- ---- one block replaced

put_here : (arrays : Arrays) (i a : ℕ) (text : List ℕ) → put arrays i a text i a ≡ text
put_here arrays i a text = rw (eq-eqb i i refl, eq-eqb a a refl)

put_other : (arrays : Arrays) (i a : ℕ) (text : List ℕ) (j b : ℕ) → (j ≡ i → b ≡ a → ⊥) → put arrays i a text j b ≡ arrays j b
put_other arrays i a text j b ne = ⊎_elim (λ e. rw (eq-eqb j i e, ne_eqb b a (ne e)) refl) (λ d. rw (ne_eqb j i d) refl) (equal j i)

-- ---- what a list of calls keeps while the session is open

-- What the device deciphers to by the tables held.
abbrev pub arrays_of : State → Arrays
arrays_of st = block_of st.device st.held.maps st.held.session

-- The session stays but for its start place, the tables are sound, cells and headers stay but for the maps, the maps on the device are those
-- held, and the arrays are what the device deciphers to.
pub record Open (first : State) (arrays : Arrays) (st : State) : Type 0 where
  pub stands : Stands (length st.device) st.held
  pub sound : SoundTables st.held
  pub session : st.held.session ≡ starting_at st.held.session.start first.held.session
  pub header : (a n : ℕ) → a + n ≤ slice_start (geometry st.held) 0
      → ((v : ℕ) → Apart a n (map_start (geometry st.held) v) ((geometry st.held).b * map_blocks (geometry st.held)))
      → part a n st.device ≡ part a n first.device
  pub on_device_lem : OnDevice st.device st.held
  pub holds : (j b : ℕ) → OpenVolume st.held j → b < block_count st.held.session j → arrays j b ≡ arrays_of st j b

-- All this of what is held, and once the session is closed of what was held last.
pub record Kept (first : State) (arrays : Arrays) (st : State) : Type 0 where
  pub last : Held
  pub sound : Open first arrays (record { device = st.device; held = last })
  pub now : st.held.session.opened ≡ true → last ≡ st.held

pub open_now : {first : State} {arrays : Arrays} {st : State} → Kept first arrays st → st.held.session.opened ≡ true → Open first arrays st
open_now {first} {arrays} {st} kept live =
    subst (λ (h : Held). Open first arrays (record { device = st.device; held = h })) (kept.now live) kept.sound

-- What is held after a call that leaves the session open.
pub kept_open : {first : State} {arrays : Arrays} {st : State} → Open first arrays st → Kept first arrays st
kept_open {st = st} op = record { last = st.held; sound = op; now = λ live. refl }

-- A header with its maps ends before the first slice.
header_ends : (g : Geometry) (i : ℕ) → i < 15 → header_start g i + g.b * (1 + map_blocks g) ≤ slice_start g 0
unfolding slice_start header_blocks
header_ends g i l = omega (arith, mul-le-mul_left g.b (mul-le-mul_right (1 + map_blocks g) l))

module _ (first : State) (device : List ℕ) (h : Held) (i a : ℕ) (text perm tape : List ℕ) (arrays : Arrays)
    (kept : Kept first arrays (record { device = device; held = h })) where
  abbrev g : Geometry
  g = geometry h

  abbrev σ : ℕ
  σ = slice_of g a

  abbrev j₀ : ℕ
  j₀ = offset_of g a

  abbrev key : ℕ → List ℕ
  key i = key_of h.session i

  abbrev Keeps : Outcome WriteResult → Type 0
  Keeps o = Kept first (arrays_after (geometry first.held) arrays (Writes i a text perm tape o.answer)) (left device o)

  none : (number count : ℕ) → (number ≡ 22 → ⊥) → Keeps (idle h (WriteResult.Refused number count))
  unfolding arrays_after patched
  none number count ne = kept

  module _ (w : Writable (length device) h i a text perm) where
    op : Open first arrays (record { device = device; held = h })
    op = open_now kept w.stands.usable.opened

    ok : Allowed g
    ok = w.stands.usable.allowed

    hj : j₀ < g.s
    hj = offset_of_lt g ok a

    below : σ < count_of h.session i
    below = (asked_slice w.stands w.asked.volume w.asked.address).0

    inside : (j b : ℕ) → OpenVolume h j → b < block_count h.session j → slice_of g b < g.p
    inside j b oj hb = omega (arith, asked_slice w.stands oj hb)

    hσ : σ < g.p
    hσ = inside i a w.asked.volume w.asked.address

    restarted : (n : ℕ) → starting_at n h.session ≡ starting_at n first.held.session
    restarted n = ap (starting_at n) op.session

    filled : Keeps (full h)
    unfolding arrays_after patched
    filled =
        kept_open (record {
          stands = stands_at h (full h).held w.stands (le_refl g.p) refl refl refl refl;
          sound =
              let a = op.sound.apart in
              record { whole = op.sound.whole; apart = record { once = a.once; owner = a.owner; free = a.free } };
          session = restarted g.p;
          header = op.header;
          on_device_lem = op.on_device_lem;
          holds = op.holds;
        })

    rewrites : held_entry h i a < g.p → Enough (length tape) h.position 16 → Keeps (rewritten h i (held_entry h i a) j₀ text tape)
    unfolding arrays_after patched iv_start block_start
    rewrites l enough =
        kept_open (record {
          stands =
              record { usable = w.stands.usable; long = patched-length o.patches device ∙ w.stands.long; tables = w.stands.tables };
          sound =
              let a = op.sound.apart in
              record { whole = op.sound.whole; apart = record { once = a.once; owner = a.owner; free = a.free } };
          session = op.session;
          header = λ x n fits out. stays x n fits ∙ op.header x n fits out;
          on_device_lem = λ v τ ov hτ.
              ap (λ (header : List ℕ). stored_entry g (key v) header τ)
              (stays (header_start g v) (g.b * (1 + map_blocks g)) (header_ends g v (omega (arith, ov, w.stands.usable.top))))
              ∙ op.on_device_lem v τ ov hτ;
          holds = λ j b oj hb. ⊎_elim (here j b) (other j b oj hb) (both j b);
        })
      where
        o : Outcome WriteResult
        o = rewritten h i (held_entry h i a) j₀ text tape

        -- What lies before the slices.
        stays : (x n : ℕ) → x + n ≤ slice_start g 0 → part x n (patched o.patches device) ≡ part x n device
        stays x n fits =
            overlay_before _ _ _ x n (omega (arith, slice_first g (held_entry h i a)))
            ∙ overlay_before device _ _ x n (omega (arith, slice_first g (held_entry h i a)))

        iv : List ℕ
        iv = part h.position 16 tape

        ivl : length iv ≡ 16
        ivl = part_length tape h.position 16 enough

        both : (j b : ℕ) → ((j ≡ i) × (b ≡ a)) ⊎ (j ≡ i → b ≡ a → ⊥)
        both j b = ⊎_elim (λ e. ⊎_elim (λ f. inl (e, f)) (λ f. inr (λ p q. f q)) (equal b a)) (λ e. inr (λ p q. e p)) (equal j i)

        here : (j b : ℕ) → (j ≡ i) × (b ≡ a) → put arrays i a text j b ≡ arrays_of (left device o) j b
        here j b e =
            rw (e.0, e.1) (put_here arrays i a text
            ∙ sym (restored_here g ok device (key i) iv text (held_entry h i a) j₀ l hj w.stands.long ivl w.asked.size))

        other : (j b : ℕ) → OpenVolume h j → b < block_count h.session j → (j ≡ i → b ≡ a → ⊥)
            → put arrays i a text j b ≡ arrays_of (left device o) j b
        other j b oj hb ne =
            put_other arrays i a text j b ne
            ∙ op.holds j b oj hb
            ∙ sym (restored_other g ok device (key i) iv text (held_entry h i a) j₀ l hj w.stands.long ivl w.asked.size
            (key j) (held_entry h j b) (offset_of g b) (offset_of_lt g ok b)
            (λ e f. let q = op.sound.apart.once i σ j (slice_of g b) w.asked.volume oj hσ (inside j b oj hb) l (sym e) in
            ne (sym q.0) (same_address g b a (sym q.1) f)))

    module _ (ψ place : ℕ) (un : held_entry h i a ≡ unmapped) (f : FreeAt h perm place) (hψ : ψ < g.p) (free : get_or h.owners ψ 0 ≡ 0)
        (enough : Enough (length tape) h.position (claim_need g)) where
      abbrev o : Outcome WriteResult
      o = claimed h i σ j₀ ψ place text tape

      abbrev ivs : List ℕ
      ivs = part h.position g.b tape

      -- The device with the slice stored, and with the map block.
      abbrev device' : List ℕ
      device' = overlay device (slice_start g ψ) (claimed_bytes g.b g.s (key i) ivs j₀ text)

      abbrev iv' : List ℕ
      iv' = part (h.position + g.b) 16 tape

      abbrev maps' : List ℕ
      maps' = set h.maps (slot g i σ) ψ

      abbrev device'' : List ℕ
      device'' = overlay device' (map_block_start g i (map_block_of g σ)) (map_block maps' g (key i) i (map_block_of g σ) iv')

      ivsl : length ivs ≡ g.b
      ivsl = part_length tape h.position g.b (omega (arith, enough))

      ivl' : length iv' ≡ 16
      ivl' = part_length tape (h.position + g.b) 16 (omega (arith, enough))

      stands' : Stands (length device') h
      stands' =
          record { usable = w.stands.usable; long = overlay_length device _ _ ∙ w.stands.long; tables = w.stands.tables }

      -- The slice is stored behind the headers.
      headers_stay : (x n : ℕ) → x + n ≤ slice_start g 0 → part x n device' ≡ part x n device
      headers_stay x n fits = overlay_before device (slice_start g ψ) _ x n (omega (arith, slice_first g ψ))

      on_device' : OnDevice device' h
      on_device' v τ ov hτ =
          ap (λ (header : List ℕ). stored_entry g (key v) header τ)
          (headers_stay (header_start g v) (g.b * (1 + map_blocks g)) (header_ends g v (omega (arith, ov, w.stands.usable.top))))
          ∙ op.on_device_lem v τ ov hτ

      low_claimed : i < 15
      low_claimed = omega (arith, w.asked.volume, w.stands.usable.top)

      -- The map block is stored before the slices.
      slices_stay : (key' : List ℕ) (φ n : ℕ) → deciphered g key' φ n device'' ≡ deciphered g key' φ n device'
      slices_stay = deciphered_kept g ok device' stands'.long maps' (key i) iv' ivl' i (map_block_of g σ) low_claimed (map_block_of_lem g ok σ hσ)

      -- Block n of the claimed slice.
      fresh : (n : ℕ) → n < g.s → deciphered g (key i) ψ n device' ≡ claimed_text g text j₀ n
      fresh = filled_here g (key i) ivs text j₀ ivsl w.asked.size ok device w.stands.long ψ hψ

      old : (key' : List ℕ) (φ n : ℕ) → n < g.s → (φ ≡ ψ → ⊥) → deciphered g key' φ n device' ≡ deciphered g key' φ n device
      old = filled_other g (key i) ivs text j₀ ivsl w.asked.size ok device w.stands.long ψ hψ

      entry_now : table_entry o.held i σ ≡ ψ
      entry_now = set_entry (length device) h i σ ψ w.stands w.asked.volume below

      large : g.p ≤ unmapped
      large = omega (arith, ok.slices_most)

      now_is : (j b : ℕ) → OpenVolume h j → b < block_count h.session j
          → put arrays i a text j b ≡ deciphered g (key j) (table_entry o.held j (slice_of g b)) (offset_of g b) device'
      now_is j b oj hb =
          ⊎_elim (λ e. ⊎_elim (mine e) (λ d. others (λ p q. d q)) (equal (slice_of g b) σ)) (λ d. others (λ p q. d p)) (equal j i)
        where
          hb' : slice_of g b < g.p
          hb' = inside j b oj hb

          -- Another logical slice.
          others : (j ≡ i → slice_of g b ≡ σ → ⊥)
              → put arrays i a text j b ≡ deciphered g (key j) (table_entry o.held j (slice_of g b)) (offset_of g b) device'
          others ne =
              put_other arrays i a text j b (λ p q. ne p (ap (slice_of g) q))
              ∙ op.holds j b oj hb
              ∙ rw (set_entry_other (length device) h i σ ψ w.stands w.asked.volume below j (slice_of g b) hb' ne)
              (sym (old (key j) (held_entry h j b) (offset_of g b) (offset_of_lt g ok b)
              (free_new op.sound ψ hψ free j (slice_of g b) oj hb')))

          -- The claimed one.
          mine : j ≡ i → slice_of g b ≡ σ
              → put arrays i a text j b ≡ deciphered g (key j) (table_entry o.held j (slice_of g b)) (offset_of g b) device'
          mine e f =
              ⊎_elim
              (λ q. let b≡a : b ≡ a = same_address g b a f q in
              rw (e, b≡a) (put_here arrays i a text ∙ sym (rw entry_now (fresh j₀ hj ∙ rw (eq-eqb j₀ j₀ refl) refl))))
              (λ d.
              put_other arrays i a text j b (λ p q. d (ap (offset_of g) q))
              ∙ op.holds j b oj hb
              ∙ deciphered_unmapped g (key j) (held_entry h j b) (offset_of g b) device (rw (e, f, un) large)
              ∙ sym (rw (e, f, entry_now) (fresh (offset_of g b) (offset_of_lt g ok b) ∙ rw (ne_eqb (offset_of g b) j₀ d) refl)))
              (equal (offset_of g b) j₀)

      sound' : SoundTables o.held
      sound' = claimed_sound (length device) h i σ j₀ ψ place text tape w.stands w.asked.volume below op.sound hψ free un

      claims : Keeps o
      unfolding arrays_after patched
      claims =
          kept_open (record {
            stands =
                claimed_stands h w.stands i σ j₀ ψ place text tape (omega (arith, f.inside, w.places))
                (overlay_length device' _ _ ∙ overlay_length device _ _);
            sound = sound';
            session = restarted (place + 1);
            header = λ x n fits out.
                maps_kept g ok device' stands'.long maps' (key i) iv' ivl' i (map_block_of g σ) low_claimed (map_block_of_lem g ok σ hσ) x n (out i)
                ∙ headers_stay x n fits
                ∙ op.header x n fits out;
            on_device_lem =
                set_on_device device' h stands' i σ ψ iv' w.asked.volume below ivl' on_device'
                (λ τ hτ. sound_fits sound' i τ w.asked.volume hτ);
            holds = λ j b oj hb. now_is j b oj hb ∙ sym (slices_stay (key j) (table_entry o.held j (slice_of g b)) (offset_of g b));
          })

  -- A write keeps what the list needs, whatever it answers.
  write_keeps : Keeps (write_model (length device) h i a text perm tape)
  write_keeps =
      write_stores (length device) h i a text perm tape Keeps none filled rewrites (λ c ψ place. claims c.writable ψ place c.mark)

-- A close leaves the device, and with it what was held.
close_keeps : (first : State) (device : List ℕ) (h : Held) (arrays : Arrays)
    → Kept first arrays (record { device = device; held = h }) → Kept first arrays (left device (close_model (length device) h))
unfolding patched
close_keeps first device h arrays kept =
    close_cases (length device) h (λ (o : Outcome CloseResult). Kept first arrays (left device o)) (λ r e. kept)
    (λ st. record { last = kept.last; sound = kept.sound; now = λ live. let z : ◌≡◌ {A = ℕ} 0 1 = cc in absurd (omega arith) })

-- A release clears the blocks of its logical slice, and every other block stays.
module _ (first : State) (device : List ℕ) (h : Held) (i σ : ℕ) (perm tape : List ℕ) (arrays : Arrays)
    (kept : Kept first arrays (record { device = device; held = h })) where
  abbrev Releases-keep : Outcome ReleaseResult → Type 0
  Releases-keep o = Kept first (arrays_after (geometry first.held) arrays (Releases i σ perm tape o.answer)) (left device o)

  module _ (w : Releasable (length device) h i σ perm tape) where
    abbrev ψ : ℕ
    ψ = table_entry h i σ

    abbrev after : Outcome ReleaseResult
    after = released h i σ ψ (place_of ψ perm) tape

    before : Open first arrays (record { device = device; held = h })
    before = open_now kept w.stands.usable.opened

    ivl : length (part h.position 16 tape) ≡ 16
    ivl = part_length tape h.position 16 w.enough

    low_freed : i < 15
    low_freed = omega (arith, w.volume, w.stands.usable.top)

    block : map_block_of (geometry h) σ < map_blocks (geometry h)
    block = map_block_of_lem (geometry h) w.stands.usable.allowed σ (set_slice (length device) h i σ unmapped w.stands w.volume w.slice)

    behind : (key' : List ℕ) (φ n : ℕ) → deciphered (geometry h) key' φ n (left device after).device ≡ deciphered (geometry h) key' φ n device
    unfolding patched
    behind =
        deciphered_kept (geometry h) w.stands.usable.allowed device w.stands.long _ (key_of h.session i) _ ivl i _ low_freed block

    same_geometry : geometry h ≡ geometry first.held
    same_geometry = ap (λ (s : Session). s.geometry) before.session

    clears : (j b : ℕ) → OpenVolume h j → b < block_count h.session j
        → cleared (geometry h) arrays i σ j b ≡ arrays_of (left device after) j b
    unfolding patched
    clears j b oj hb =
        ⊎_elim
        (λ c. rw (eq-eqb j i c.0, eq-eqb (slice_of (geometry h) b) σ c.1)
        (sym (deciphered_unmapped (geometry h) (key_of h.session j) _ (offset_of (geometry h) b) (left device after).device
        (rw c.2 (omega (arith, w.stands.usable.allowed.slices_most))))))
        (λ c. other c.0 ∙ before.holds j b oj hb
        ∙ ap (λ (x : ℕ). deciphered (geometry h) (key_of h.session j) x (offset_of (geometry h) b) device) (sym c.1)
        ∙ sym (behind (key_of h.session j) _ (offset_of (geometry h) b)))
        (released_cases (length device) h i σ perm tape w j (slice_of (geometry h) b) (omega (arith, asked_slice w.stands oj hb)))
      where
        other : (j ≡ i → slice_of (geometry h) b ≡ σ → ⊥) → cleared (geometry h) arrays i σ j b ≡ arrays j b
        other ne =
            ⊎_elim (λ e. rw (eq-eqb j i e, ne_eqb (slice_of (geometry h) b) σ (ne e)) refl) (λ d. rw (ne_eqb j i d) refl) (equal j i)

    releases : Releases-keep after
    unfolding arrays_after patched
    releases =
        let sound' = released_sound (length device) h i σ perm tape w before.sound in
        kept_open (record {
          stands = released_stands (length device) h i σ perm tape w (overlay_length device _ _);
          sound = sound';
          session = ap (starting_at _) before.session;
          header = λ x n fits out.
              maps_kept (geometry h) w.stands.usable.allowed device w.stands.long _ (key_of h.session i) _ ivl i _ low_freed block x n (out i)
              ∙ before.header x n fits out;
          on_device_lem =
              set_on_device device h w.stands i σ unmapped _ w.volume w.slice ivl before.on_device_lem
              (λ τ hτ. sound_fits sound' i τ w.volume hτ);
          holds = λ j b oj hb. subst (λ (g' : Geometry). cleared g' arrays i σ j b ≡ arrays_of (left device after) j b) same_geometry (clears j b oj hb);
        })

  release_keeps : Releases-keep (release_model (length device) h i σ perm tape)
  unfolding arrays_after patched
  release_keeps = release_cases (length device) h i σ perm tape Releases-keep (λ r e. kept) releases

-- ---- the answers that are due

module _ (first : State) (st : State) (arrays : Arrays) (kept : st.held.session.opened ≡ true → Open first arrays st) where
  abbrev h₀ : Held
  h₀ = st.held

  abbrev g₀ : Geometry
  g₀ = geometry h₀

  abbrev n : ℕ
  n = length st.device

  -- A request that fits is not refused.
  fits_ready : (m i a len : ℕ) → Fits h₀ m i a len → Ready n h₀ i a len
  fits_ready m i a len f =
      let op = kept f.opened in
      record {
        stands = op.stands;
        asked = record {
          volume = f.volume;
          address = f.address;
          size = f.size;
          mapped = sound_fits op.sound i (slice_of g₀ a) f.volume (omega (arith, asked_slice op.stands f.volume f.address));
        };
      }

  asked_fits : (m i a len : ℕ) → Stands n h₀ → m ≡ g₀.p → Asked h₀ i a len → Fits h₀ m i a len
  asked_fits m i a len s q w = record { opened = s.usable.opened; places = q; volume = w.volume; address = w.address; size = w.size }

  -- A session that is not unusable is open.
  live : ((Usable h₀.session → ⊥) → ⊥) → h₀.session.opened ≡ true
  live u = reflects_stable (bool_reflects h₀.session.opened) (λ shut. u (λ s. shut s.opened))

  -- One that is refused fails a condition: where the session is open, it stands, and its entries fit.
  module _ (m i a len r : ℕ) where
    write_unfit : write_refusal_of n h₀ i a len m ≡ suc r → Unfit h₀ m i a len (suc r)
    write_unfit e = go (rw e at (write_leads n h₀ i a len m))
      where
        many : ((m ≡ g₀.p → ⊥) → ⊥) → m ≡ g₀.p
        many = reflects_stable (eqb_reflects m g₀.p)

        go : Leads (early_rules n h₀ i a len m) (suc r) 0 → Unfit h₀ m i a len (suc r)
        go (here f q c) = rw q (Unfit.shut (λ o. f (kept o).stands.usable))
        go (later u (here f q c)) = absurd (f (kept (live u)).stands.long)
        go (later u (later l (here f q c))) = absurd (f (kept (live u)).stands.tables)
        go (later u (later l (later t (here f q c)))) = rw q (Unfit.places (live u) f)
        go (later u (later l (later t (later p (here v q c))))) = rw q (Unfit.volume (live u) (many p) v)
        go (later u (later l (later t (later p (later v (here w q c)))))) = rw q (Unfit.address (live u) (many p) (omega arith) w)
        go (later u (later l (later t (later p (later v (later w (here f q c))))))) =
            rw q (Unfit.size (live u) (many p) (omega arith) (omega arith) f)
        go (later u (later l (later t (later p (later v (later w (later s (here f q c)))))))) =
            let op = kept (live u) in
            let volume : OpenVolume h₀ i = omega arith in
            let address : a < block_count h₀.session i = omega arith in
            absurd (f (sound_fits op.sound i (slice_of g₀ a) volume (omega (arith, asked_slice op.stands volume address))))
        go (later u (later l (later t (later p (later v (later w (later s (later _ x)))))))) = elim x [ ]

  -- A read is refused as a write with a permutation of P places.
  read_unfit : (i a len r : ℕ) → read_refusal_of n h₀ i a len ≡ suc r → Unfit h₀ g₀.p i a len (suc r)
  unfolding read_refusal write_refusal refuse
  read_unfit i a len r e = write_unfit g₀.p i a len r (rw (eq-eqb g₀.p g₀.p refl) e)

  read_fits : (i a len : ℕ) → read_refusal_of n h₀ i a len ≡ 0 → Fits h₀ g₀.p i a len
  read_fits i a len e = let q = read_refusal_none n _ _ _ i a len e in asked_fits g₀.p i a len q.stands refl q.asked

  read_due : (i a room : ℕ) → ReadDue arrays h₀ i a room (read_model st.device h₀.maps h₀.owners h₀.session i a room)
  unfolding read_model
  read_due i a room =
      unless-cases (ReadDue arrays h₀ i a room) _ _ _ (λ r e. ReadDue.refused (suc r) (read_unfit i a room r e))
      (λ e. let f = read_fits i a room e in rw (← (kept f.opened).holds i a f.volume f.address) (ReadDue.filled f))

  find_due : (i a : ℕ) → FindDue st.device h₀ i a (find_model st.device h₀.maps h₀.owners h₀.session i a)
  unfolding find_model
  find_due i a =
      unless-cases (FindDue st.device h₀ i a) _ _ _
      (λ r e. nowhere (λ f. let q = fits_ready g₀.p i a g₀.b f in
      let z : 0 ≡ suc r = sym (read_refusal_served n _ _ _ i a g₀.b q) ∙ e in
      absurd (omega arith)))
      (λ e. let f = read_fits i a g₀.b e in
      choose_reflects (FindDue st.device h₀ i a) _ _ (ltb_reflects (held_entry h₀ i a) g₀.p) (found f)
      (λ out. nowhere (λ f. ⊎_elim (λ u. u) (λ l. absurd (out l)) (fits_ready g₀.p i a g₀.b f).asked.mapped)))

  -- No entry of an open volume is bad.
  block_fits : (i σ : ℕ) → h₀.session.opened ≡ true → OpenVolume h₀ i → HeldFits h₀ i σ
  block_fits i σ o oi τ hτ same = (kept o).sound.whole i τ oi hτ

  write_due : (i a : ℕ) (text perm tape : List ℕ) → WriteDue h₀ i a text perm tape (write_model n h₀ i a text perm tape).answer
  write_due i a text perm tape =
      write_cases n h₀ i a text perm tape (λ (o : Outcome WriteResult). WriteDue h₀ i a text perm tape o.answer)
      (λ r e. WriteDue.refused (suc r) (write_unfit (length perm) i a (length text) r e))
      (λ w l s. rewrite_short (fit w) l s)
      (λ w l s. WriteDue.rewritten (fit w) l s)
      (λ w u spoilt. absurd (spoilt (block_fits i (slice_of g₀ a) w.stands.usable.opened w.asked.volume)))
      (λ c place f. no_slice (fit c.writable) c.mark place f)
      (λ c f. WriteDue.full (fit c.writable) c.mark f)
      (λ c place f s. claim_short (fit c.writable) c.mark place f s)
      (λ c ψ place f q s. rw (← q) (WriteDue.claimed (fit c.writable) c.mark place f s))
    where
      fit : Writable n h₀ i a text perm → Fits h₀ (length perm) i a (length text)
      fit w = asked_fits (length perm) i a (length text) w.stands w.places w.asked

  release_due : (i σ : ℕ) (perm tape : List ℕ) → ReleaseDue h₀ i σ perm tape (release_model n h₀ i σ perm tape).answer
  release_due i σ perm tape =
      release_cases n h₀ i σ perm tape (λ (o : Outcome ReleaseResult). ReleaseDue h₀ i σ perm tape o.answer)
      (λ r e. go r (rw e at (release_leads n h₀ i σ perm (length tape))))
      (λ w. freed w.stands.usable.opened w.names w.volume w.slice w.mapped w.enough)
    where
      named : ((Names g₀.p perm → ⊥) → ⊥) → Names g₀.p perm
      named = names_stable g₀.p perm

      go : (r : ℕ) → Leads (release_rules n h₀ i σ perm (length tape)) (suc r) 0 → ReleaseDue h₀ i σ perm tape (ReleaseResult.Refused (suc r))
      go r (here f q c) = rw q (ReleaseDue.shut (λ o. f (kept o).stands.usable))
      go r (later u (here f q c)) = absurd (f (kept (live u)).stands.long)
      go r (later u (later l (here f q c))) = absurd (f (kept (live u)).stands.tables)
      go r (later u (later l (later t (here f q c)))) = rw q (ReleaseDue.places (live u) f)
      go r (later u (later l (later t (later p (here v q c))))) = rw q (ReleaseDue.volume (live u) (named p) v)
      go r (later u (later l (later t (later p (later v (here w q c)))))) = rw q (ReleaseDue.slice (live u) (named p) (omega arith) w)
      go r (later u (later l (later t (later p (later v (later w (here f q c))))))) =
          absurd (f (block_fits i σ (live u) (omega arith)))
      go r (later u (later l (later t (later p (later v (later w (later b (here e q c)))))))) =
          rw q (ReleaseDue.none (live u) (named p) (omega arith) (omega arith) e)
      go r (later u (later l (later t (later p (later v (later w (later b (later e (here lacking q c))))))))) =
          let op = kept (live u) in
          let volume : OpenVolume h₀ i = omega arith in
          let slice : σ < count_of h₀.session i = omega arith in
          rw q (release_short (live u) (named p) volume slice
          (⊎_elim (λ mark. absurd (e mark)) (λ l. l) (sound_fits op.sound i σ volume (set_slice n h₀ i σ 0 op.stands volume slice))) lacking)
      go r (later u (later l (later t (later p (later v (later w (later b (later e (later _ x))))))))) = elim x [ ]

  close_due : CloseDue h₀ (close_model n h₀).answer
  close_due =
      close_cases n h₀ (λ (o : Outcome CloseResult). CloseDue h₀ o.answer)
      (λ r e. go r (rw e at (close_leads n h₀))) (λ s. done s.usable.opened)
    where
      go : (r : ℕ) → Leads (close_rules n h₀) (suc r) 0 → CloseDue h₀ (CloseResult.Refused (suc r))
      go r (here f q c) = rw q (CloseDue.shut (λ o. f (kept o).stands.usable))
      go r (later u (here f q c)) = absurd (f (kept (live u)).stands.long)
      go r (later u (later l (here f q c))) = absurd (f (kept (live u)).stands.tables)
      go r (later u (later l (later _ x))) = elim x [ ]

-- ---- the list

call_due : (first : State) (st : State) (arrays : Arrays) → Kept first arrays st → (c : Call)
    → Due arrays st (outcome st c).answer × Kept first (arrays_after (geometry first.held) arrays (outcome st c).answer) (next st c)
unfolding Due outcome arrays_after patched
call_due first st arrays kept (Reading i a room) = (read_due first st arrays (open_now kept) i a room, kept)
call_due first st arrays kept (Finding i a) = (find_due first st arrays (open_now kept) i a, kept)
call_due first st arrays kept (Writing i a text perm tape) =
    (write_due first st arrays (open_now kept) i a text perm tape, write_keeps first st.device st.held i a text perm tape arrays kept)
call_due first st arrays kept (Releasing i σ perm tape) =
    (release_due first st arrays (open_now kept) i σ perm tape, release_keeps first st.device st.held i σ perm tape arrays kept)
call_due first st arrays kept Closing =
    (close_due first st arrays (open_now kept), close_keeps first st.device st.held arrays kept)

pub run_due : (first : State) (cs : List Call) (st : State) (arrays : Arrays) → Kept first arrays st
    → AllDue (geometry first.held) arrays st cs × Kept first (arrays_after_all (geometry first.held) arrays (events st cs)) (final st cs)
unfolding AllDue arrays_after_all events final
run_due first [] st arrays kept = (tt, kept)
run_due first (c ∷ cs) st arrays kept =
    let s = call_due first st arrays kept c in
    let r = run_due first cs (next st c) (arrays_after (geometry first.held) arrays (outcome st c).answer) s.1 in
    ((s.0, r.0), r.1)
