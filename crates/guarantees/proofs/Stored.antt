-- What a run stores: the patches of its calls in order, on the written places and nowhere else. Assumes nothing.
use Prim.Native.Nat.{ℕ, ◌+◌, ◌-◌, ◌*◌, ◌≤◌}
use mathlib.Core.Path.{◌≡◌, refl, sym, ap, ap₂, ◌∙◌}
use mathlib.Core.List.{List, [], ◌∷◌, ◌++◌}
use native.Mathlib.Omega.{arith}
use native.Mathlib.Nat.{mul-le-mul_right}
use lib.ListN.{length, get_or, set, length-set}
use borrow.Author.Tests.{ne_eqb}
use Rattle.ctr_spec.proofs.Stream.{ctr_length}
use Rattle.model.specs.declared.Geometry.{Geometry}
use Rattle.model.specs.Parts.{part, Patch, patched}
use Rattle.model.specs.Geometry.{map_block_start, slice_start, iv_start, block_start}
use Rattle.model.specs.Session.{Held, Outcome, held, idle, geometry, key_of, slot, slice_of, offset_of, unmapped, no_keys, starting_at}
use Rattle.model.specs.Maps.{map_block_of, map_patch}
use Rattle.model.specs.Write.{WriteResult, claim_need, claimed_bytes}
use Rattle.model.specs.Release.{ReleaseResult}
use Rattle.model.specs.Close.{CloseResult}
use Rattle.guarantees.specs.Runs.{State, Call, Reading, Finding, Writing, Releasing, Closing, Event, Writes, Releases, Closes}
use Rattle.guarantees.specs.Runs.{as_event, outcome, next, final, events, Range, map_range, written_by, written_by_all, Within}
use Rattle.guarantees.specs.Rules.{held_entry}
use Rattle.guarantees.specs.Effects.{held_after, held_after_all, entry_stored, stored_by, stored_by_all, Follows}
use Rattle.model.proofs.Parts.{part_length, patched-++}
use Rattle.guarantees.proofs.Patches.{ranges_of, ranges-++, patched-kept}
use Rattle.guarantees.proofs.Blocks.{claimed_length}
use Rattle.model.proofs.MapBlocks.{map_block_length, map_block_row}
use Rattle.guarantees.proofs.Cases.{Stands, write_stores, release_cases, close_cases}

-- ---- one call

-- Its patches are its written places, what it stores and leaves follows from the event, and the geometry stays.
pub record Step (h : Held) (o : Outcome Event) : Type 0 where
  ranges : ranges_of o.patches ≡ written_by (geometry h) o.answer
  pub follows : Follows h o
  geo : geometry o.held ≡ geometry h

-- A call that changes nothing.
none : {h : Held} {e : Event} → [] ≡ stored_by h e → h ≡ held_after h e → [] ≡ written_by (geometry h) e → Step h (idle h e)
none s k r = record { ranges = r; follows = record { stored = s; held = k }; geo = refl }

-- The map block of an entry that is set to x: what is stored, and where.
module _ (n : ℕ) (h : Held) (st : Stands n h) (i σ x : ℕ) (iv : List ℕ) (volume : i ≤ h.session.k) (ivl : length iv ≡ 16) where
  abbrev maps' : List ℕ
  maps' = set h.maps (slot (geometry h) i σ) x

  row : i * (geometry h).p + (geometry h).p ≤ length maps'
  row =
      omega (
        arith,
        length-set h.maps (slot (geometry h) i σ) x,
        st.tables.0,
        mul-le-mul_right {m = i + 1} {n = 15} (geometry h).p (omega (arith, volume, st.usable.top)),
      )

  entry_stored_lem : map_patch maps' h.session i σ iv ≡ entry_stored h i σ x iv
  entry_stored_lem =
      ap (λ (b : List ℕ). record { at = map_block_start (geometry h) i (map_block_of (geometry h) σ); bytes = b })
      (map_block_row maps' (geometry h) i (map_block_of (geometry h) σ) row (key_of h.session i) iv)

  pub entry_range : ranges_of (map_patch maps' h.session i σ iv ∷ []) ≡ map_range (geometry h) i σ ∷ []
  entry_range =
      ap (λ (y : ℕ). record { at = map_block_start (geometry h) i (map_block_of (geometry h) σ); size = y } ∷ [])
      (map_block_length maps' (geometry h) i (map_block_of (geometry h) σ) st.usable.allowed (key_of h.session i) iv ivl)

pub step : (st : State) (c : Call) → Step st.held (outcome st c)
unfolding outcome written_by held_after stored_by claimed_bytes no_keys
step st (Reading i a room) = none refl refl refl
step st (Finding i a) = none refl refl refl
step st (Writing i a text perm tape) =
    let h = st.held in
    let g = geometry h in
    let iv = part h.position 16 tape in
    let ivs = part h.position g.b tape in
    write_stores (length st.device) h i a text perm tape (λ (o : Outcome WriteResult). Step h (as_event (Writes i a text perm tape) o))
    (λ number count ne. none refl (rw (ne_eqb number 22 ne) refl) refl)
    (λ w. record {
      follows = record {
        stored = refl;
        held =
            let moved : (geometry h).p ≡ h.session.start + ((geometry h).p - h.session.start) = omega (arith, w.stands.usable.place) in
            ap (λ (n : ℕ). held h.maps h.owners h.position (starting_at n h.session)) moved;
      };
      geo = refl;
      ranges = refl;
    })
    (λ w l enough. record {
      follows = record { stored = refl; held = refl };
      geo = refl;
      ranges =
          ap₂ (λ (x y : ℕ).
          record { at = iv_start g (held_entry h i a) (offset_of g a); size = x }
          ∷ record { at = block_start g (held_entry h i a) (offset_of g a); size = y }
          ∷ [])
          (part_length tape h.position 16 enough) (ctr_length (key_of h.session i) iv text ∙ w.asked.size);
    })
    (λ c ψ place f hψ free enough. let w = c.writable in
    let last = part_length tape (h.position + g.b) 16 (omega (arith, enough)) in
    record {
      follows = record {
        stored =
            ap (λ (x : Patch). record { at = slice_start g ψ; bytes = claimed_bytes g.b g.s (key_of h.session i) ivs (offset_of g a) text } ∷ x ∷ [])
            (entry_stored_lem (length st.device) h w.stands i (slice_of g a) ψ _ w.asked.volume last);
        held =
            let moved : place + 1 ≡ h.session.start + (place + 1 - h.session.start) = omega (arith, f.from) in
            ap (λ (n : ℕ). held (set h.maps (slot g i (slice_of g a)) ψ) (set h.owners ψ (i + 1)) (h.position + claim_need g)
            (starting_at n h.session)) moved;
      };
      geo = refl;
      ranges =
          ap₂ (λ (x : ℕ) (rs : List Range). record { at = slice_start g ψ; size = x } ∷ rs)
          (claimed_length g (key_of h.session i) ivs text (offset_of g a) (part_length tape h.position g.b (omega (arith, enough)))
          w.asked.size)
          (entry_range (length st.device) h w.stands i (slice_of g a) ψ _ w.asked.volume last);
    })
step st (Releasing i σ perm tape) =
    let h = st.held in
    release_cases (length st.device) h i σ perm tape (λ (o : Outcome ReleaseResult). Step h (as_event (Releases i σ perm tape) o))
    (λ r e. none refl refl refl)
    (λ w. let ivl = part_length tape h.position 16 w.enough in
    record {
      follows = record {
        stored = ap (λ (x : Patch). x ∷ []) (entry_stored_lem (length st.device) h w.stands i σ unmapped _ w.volume ivl);
        held = refl;
      };
      geo = refl;
      ranges = entry_range (length st.device) h w.stands i σ unmapped _ w.volume ivl;
    })
step st Closing =
    let h = st.held in
    close_cases (length st.device) h (λ (o : Outcome CloseResult). Step h (as_event Closes o))
    (λ r e. none refl refl refl) (λ s. record { follows = record { stored = refl; held = refl }; geo = refl; ranges = refl })

-- ---- the list

-- The patches of the calls, in order.
unfoldable pub stores : State → List Call → List Patch
stores st [] = []
stores st (c ∷ cs) = (outcome st c).patches ++ stores (next st c) cs

-- They are what the events store.
run_stores : (cs : List Call) (st : State) → stores st cs ≡ stored_by_all st.held (events st cs)
unfolding stores events stored_by_all
run_stores [] st = refl
run_stores (c ∷ cs) st =
    let f = (step st c).follows in
    ap₂ (λ (ps qs : List Patch). ps ++ qs) f.stored
    (run_stores cs (next st c) ∙ ap (λ (h : Held). stored_by_all h (events (next st c) cs)) f.held)

pub run_patched : (cs : List Call) (st : State) → (final st cs).device ≡ patched (stores st cs) st.device
unfolding final stores patched
run_patched [] st = refl
run_patched (c ∷ cs) st = run_patched cs (next st c) ∙ sym (patched-++ (outcome st c).patches (stores (next st c) cs) st.device)

pub run_stored : (cs : List Call) (st : State) → (final st cs).device ≡ patched (stored_by_all st.held (events st cs)) st.device
run_stored cs st = run_patched cs st ∙ ap (λ (ps : List Patch). patched ps st.device) (run_stores cs st)

abbrev places_of : State → List Event → List Range
places_of st es = written_by_all (geometry st.held) es

pub run_ranges : (cs : List Call) (st : State) → ranges_of (stores st cs) ≡ places_of st (events st cs)
unfolding stores events written_by_all
run_ranges [] st = refl
run_ranges (c ∷ cs) st =
    let s = step st c in
    ranges-++ (outcome st c).patches (stores (next st c) cs)
    ∙ ap₂ (λ (a b : List Range). a ++ b) s.ranges
    (run_ranges cs (next st c) ∙ ap (λ (g : Geometry). written_by_all g (events (next st c) cs)) s.geo)

pub run-kept : (cs : List Call) (st : State) (p : ℕ) → (Within p (places_of st (events st cs)) → ⊥)
    → get_or (final st cs).device p 0 ≡ get_or st.device p 0
run-kept cs st p out =
    ap (λ (l : List ℕ). get_or l p 0) (run_patched cs st) ∙ patched-kept (stores st cs) st.device p (rw (run_ranges cs st) out)

pub run-held : (cs : List Call) (st : State) → (final st cs).held ≡ held_after_all st.held (events st cs)
unfolding final events held_after_all
run-held [] st = refl
run-held (c ∷ cs) st = run-held cs (next st c) ∙ ap (λ (h : Held). held_after_all h (events (next st c) cs)) (step st c).follows.held
