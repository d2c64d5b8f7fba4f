-- Each call is served, or refused by the first rule that holds. Assumes nothing.
use Prim.Native.Nat.{ℕ, suc, ◌+◌, ◌*◌, ◌≤◌, ◌<◌}
use mathlib.Core.Path.{◌≡◌, refl}
use mathlib.Core.Logic.{inl, inr, ⊎_elim}
use mathlib.Core.List.{List, ◌∷◌, ◌++◌}
use native.Mathlib.Nat.{mul-le-mul_right}
use native.Mathlib.Omega.{arith}
use lib.ListN.{length}
use Rattle.model.specs.declared.Geometry.{Geometry}
use Rattle.model.specs.declared.Session.{Session}
use Rattle.model.specs.Geometry.{Allowed, device_length, cell_of, header_of}
use Rattle.model.specs.Session.{Held, Outcome, geometry, slice_of, entry_of, unmapped, standing, no_keys}
use Rattle.model.specs.Opening.{Cell, Chain, map_entries, Loaded, open_refusal, OpenOutcome, all_keys, all_counts}
use Rattle.model.specs.Opening.{with_tables, with_keys, with_cell, open_model}
use Rattle.model.specs.Read.{ReadResult, deciphered, read_refusal, read_model, find_model}
use Rattle.model.specs.Write.{WriteResult, write_model}
use Rattle.model.specs.Release.{ReleaseResult, release_refusal, release_model}
use Rattle.model.specs.Close.{CloseResult, close_model}
use Rattle.model.specs.Conditions.{Enough}
use Rattle.guarantees.specs.Rules.{Rule, rule, First, SearchEnds, held_entry, HeldFits, open_rules}
use Rattle.guarantees.specs.Openings.{Lowest, AllUnlocked, OpenAnswered, handed_wrong, no_cell, header_tag}
use Rattle.guarantees.specs.Openings.{header_geometry, bad_entry_lem, slice_twice}
use Rattle.guarantees.specs.Points.{ReadAnswered, FindAnswered, WriteAnswered, ReleaseAnswered, CloseAnswered}
use Rattle.model.proofs.Refused.{unless-cases}
use Rattle.model.proofs.Requests.{read_refusal_none}
use Rattle.model.proofs.Cells.{CellsEnd, lowest, nowhere, first_cell_ends}
use Rattle.guarantees.proofs.Reflects.{ltb_reflects, choose_reflects}
use Rattle.guarantees.proofs.Chains.{Leads, here, later, none, leads-first, leads-append, none_leads}
use Rattle.guarantees.proofs.Orders.{early_rules, open_leads, read_leads, write_leads, release_leads, close_leads}
use Rattle.guarantees.proofs.Search.{search_ends, free_not_bad, free_not_full, full_not_bad}
use Rattle.guarantees.proofs.Cases.{Writable, writable_passes, Claimable, write_cases}
use Rattle.guarantees.proofs.Unlocks.{ChainEnds, whole, wrong_tag, misfit, chain_ends, all_keys_unlocked}
use Rattle.guarantees.proofs.Tables.{LoadEnds, loaded, bad, twice, holds_sound, load_ends}
use Rattle.guarantees.proofs.Opened.{open_refusal_none}

-- ---- read, find, release and close

-- Where no refusal applies the asked entry is a slice or the mark.
module _ (device maps owners : List ℕ) (s : Session) (i a room : ℕ) (e : read_refusal (length device) maps owners s i a room ≡ 0) where
  entry_unmapped : (entry_of maps s.geometry i a < s.geometry.p → ⊥) → entry_of maps s.geometry i a ≡ unmapped
  entry_unmapped out = ⊎_elim (λ u. u) (λ l. absurd (out l)) (read_refusal_none (length device) maps owners s i a room e).asked.mapped

pub read_answered : (device maps owners : List ℕ) (s : Session) (i a room : ℕ)
    → ReadAnswered device maps owners s i a room (read_model device maps owners s i a room)
unfolding read_model deciphered
read_answered device maps owners s i a room =
    let q = read_leads (length device) maps owners s i a room in
    let Answered = ReadAnswered device maps owners s i a room in
    unless-cases Answered (read_refusal (length device) maps owners s i a room) _ _
    (λ r e. ReadAnswered.refused (suc r) (omega arith) (leads-first (rw e at q)))
    (λ e. choose_reflects (λ (bytes : List ℕ). Answered (ReadResult.Filled bytes)) _ _
    (ltb_reflects (entry_of maps s.geometry i a) s.geometry.p)
    (ReadAnswered.mapped (leads-first (rw e at q)))
    (λ out. ReadAnswered.zeros (leads-first (rw e at q)) (entry_unmapped device maps owners s i a room e out)))

pub find_answered : (device maps owners : List ℕ) (s : Session) (i a : ℕ)
    → FindAnswered device maps owners s i a (find_model device maps owners s i a)
unfolding find_model
find_answered device maps owners s i a =
    let q = read_leads (length device) maps owners s i a s.geometry.b in
    unless-cases (FindAnswered device maps owners s i a) (read_refusal (length device) maps owners s i a s.geometry.b) _ _
    (λ r e. FindAnswered.refused (suc r) (omega arith) (leads-first (rw e at q)))
    (λ e. choose_reflects (FindAnswered device maps owners s i a) _ _ (ltb_reflects (entry_of maps s.geometry i a) s.geometry.p)
    (FindAnswered.mapped (leads-first (rw e at q)))
    (λ out. FindAnswered.nowhere (leads-first (rw e at q)) (entry_unmapped device maps owners s i a s.geometry.b e out)))

pub release_answered : (device : ℕ) (h : Held) (i σ : ℕ) (perm tape : List ℕ)
    → ReleaseAnswered device h i σ perm tape (release_model device h i σ perm tape).answer
unfolding release_model
release_answered device h i σ perm tape =
    let q = release_leads device h i σ perm (length tape) in
    unless-cases (λ (o : Outcome ReleaseResult). ReleaseAnswered device h i σ perm tape o.answer)
    (release_refusal device h i σ perm (length tape)) _ _
    (λ r e. ReleaseAnswered.refused (suc r) (omega arith) (leads-first (rw e at q)))
    (λ e. ReleaseAnswered.served (leads-first (rw e at q)))

pub close_answered : (device : ℕ) (h : Held) → CloseAnswered device h (close_model device h).answer
unfolding close_model
close_answered device h =
    let q = close_leads device h in
    unless-cases (λ (o : Outcome CloseResult). CloseAnswered device h o.answer)
    (standing device (length h.maps) (length h.owners) h.session 0) _ _
    (λ r e. CloseAnswered.refused (suc r) (omega arith) (leads-first (rw e at q)))
    (λ e. CloseAnswered.served (leads-first (rw e at q)))

-- ---- write

module _ (device : ℕ) (h : Held) (i a : ℕ) (text perm tape : List ℕ) where
  ends : (n : ℕ) × SearchEnds h perm n
  ends = search_ends h perm

  module _ (w : Writable device h i a text perm) where
    -- None of the early rules holds.
    late : {rs : List Rule} {n c : ℕ} → Leads rs n c → First (early_rules device h i a (length text) (length perm) ++ rs) n c
    late q = leads-first (none_leads (early_rules device h i a (length text) (length perm)) (writable_passes device h i a text perm w) q)

    -- A slice's number is not the mark.
    slice_not_mark : {A : Type 0} → held_entry h i a < (geometry h).p → (held_entry h i a ≡ unmapped) × A → ⊥
    slice_not_mark l x = omega (arith, l, x.0, w.stands.usable.allowed.slices_most)

    mark_not_slice : {A : Type 0} → held_entry h i a ≡ unmapped → (held_entry h i a < (geometry h).p) × A → ⊥
    mark_not_slice u x = omega (arith, u, x.0, w.stands.usable.allowed.slices_most)

  pub write_answered : WriteAnswered device h i a text perm tape (write_model device h i a text perm tape).answer
  write_answered =
      write_cases device h i a text perm tape (λ (o : Outcome WriteResult). WriteAnswered device h i a text perm tape o.answer)
      (λ r e. WriteAnswered.refused ends.0 (suc r) 0 (omega arith) ends.1
      (leads-first (leads-append _ (omega arith) (rw e at (write_leads device h i a (length text) (length perm))))))
      (λ w l lacking. WriteAnswered.refused ends.0 21 0 (omega arith) ends.1 (late w (here (l, lacking) refl refl)))
      (λ w l enough. WriteAnswered.rewritten ends.0 ends.1
      (late w (later (λ x. x.1 enough)
      (later (slice_not_mark w l) (later (slice_not_mark w l) (later (slice_not_mark w l) (later (slice_not_mark w l) none)))))) l)
      (λ w u spoilt. WriteAnswered.refused ends.0 9 0 (omega arith) ends.1 (late w (later (mark_not_slice w u) (here (u, spoilt) refl refl))))
      (λ c n f. WriteAnswered.refused n 5 _ (omega arith) (inr (inl f)) (claims c (here (c.mark, f) refl refl)))
      (λ c f. WriteAnswered.refused 0 22 _ (omega arith) (inr (inr f))
      (claims c (later (λ x. full_not_bad h perm 0 f x.1) (here (c.mark, f) refl refl))))
      (λ c n f lacking. WriteAnswered.refused n 21 _ (omega arith) (inl f)
      (claims c (later (λ x. free_not_bad h perm n f x.1) (later (λ x. free_not_full h perm n f x.1) (here (c.mark, lacking) refl refl)))))
      (λ c ψ n f q enough. rw (← q) (WriteAnswered.claimed n f (claims c
      (later (λ x. free_not_bad h perm n f x.1) (later (λ x. free_not_full h perm n f x.1) (later (λ x. x.1 enough) none)))) c.mark))
    where
      -- Neither the rule of a rewrite nor that of the map block holds.
      claims : Claimable device h i a text perm tape → {rs : List Rule} {n c : ℕ} → Leads rs n c
          → First (early_rules device h i a (length text) (length perm)
          ++ (rule 21 ((held_entry h i a < (geometry h).p) × (Enough (length tape) h.position 16 → ⊥))
          ∷ rule 9 ((held_entry h i a ≡ unmapped) × (HeldFits h i (slice_of (geometry h) a) → ⊥)) ∷ rs)) n c
      claims c q = late c.writable (later (mark_not_slice c.writable c.mark) (later (λ x. x.1 c.block) q))

-- ---- opening

module _ (device : List ℕ) (g : Geometry) (key maps owners perm : List ℕ) where
  abbrev Opens : OpenOutcome → Type 0
  Opens = OpenAnswered device g key maps owners perm

  abbrev header : ℕ → List ℕ
  header = header_of g device

  -- Where none of 1 to 5 applies.
  module _ (first : First (open_rules g (length device) (length key) (length maps) (length owners) perm) 0 0)
      (ok : Allowed g) (long : length device ≡ device_length g) where
    module _ (k : ℕ) (top : List ℕ) (low : Lowest device key k top) where
      room : (k + 1) * g.p ≤ 15 * g.p
      room = mul-le-mul_right g.p (omega (arith, low.top))

      with_tables_answered : (keys counts : List ℕ) → AllUnlocked device g k top keys counts → {l : Loaded}
          → LoadEnds g.p counts (map_entries g header keys) ((k + 1) * g.p) l → Opens (with_tables g perm k keys counts l)
      unfolding with_tables no_keys
      with_tables_answered keys counts all (loaded ms os holds) =
          OpenAnswered.served first k top _ low all
          (holds_sound g.p counts (map_entries g header keys) ((k + 1) * g.p) ms os room holds) refl
      with_tables_answered keys counts all (bad n l sound other out) = bad_entry_lem first k top keys counts low all n l sound other out
      with_tables_answered keys counts all (twice n l sound slice m m<n same) =
          slice_twice first k top keys counts low all n l sound slice m m<n same

      with_keys_answered : {c : Chain} → ChainEnds device g k top c → Opens (with_keys g perm header k c)
      unfolding with_keys no_keys
      with_keys_answered (whole keys counts u) =
          with_tables_answered (all_keys keys k) (all_counts counts k) (all_keys_unlocked device g k top low.top keys counts u)
          (load_ends g.p (all_counts counts k) (map_entries g header (all_keys keys k)) ((k + 1) * g.p) (omega (arith, ok.slices_most)) room)
      with_keys_answered (wrong_tag i vmk reached e) = header_tag first k top low i vmk reached e
      with_keys_answered (misfit i vmk text reached e f) = header_geometry first k top low i vmk text reached e f

    with_cell_answered : {c : Cell} → CellsEnd key (cell_of device) 15 c → Opens (with_cell g perm header c)
    unfolding with_cell no_keys
    with_cell_answered (lowest k top low) =
        with_keys_answered k top (record { top = low.0; opens = low.1; below = low.2 }) (chain_ends device g k top ok long low.0)
    with_cell_answered (nowhere shut) = no_cell first shut

  pub open_answered : Opens (open_model device g key maps owners perm)
  unfolding open_model no_keys
  open_answered =
      let q = open_leads g (length device) (length key) (length maps) (length owners) perm in
      unless-cases Opens (open_refusal g (length device) (length key) (length maps) (length owners) perm) _ _
      (λ r e. handed_wrong (suc r) (omega arith) (leads-first (rw e at q)))
      (λ e. let taken =
      open_refusal_none device (record { geometry = g; key = key; perm = perm; position = 0 }) (record { maps = maps; owners = owners }) e in
      with_cell_answered (leads-first (rw e at q)) taken.good taken.long (first_cell_ends key (cell_of device) 15))
