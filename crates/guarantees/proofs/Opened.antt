-- What a served opening leaves, and that it hangs on cells and headers up to k alone. Assumes nothing.
use Prim.Native.Nat.{ℕ, zero, suc, ◌+◌, ◌*◌, ◌/◌, ◌%◌, ◌≤◌, ◌<◌}
use mathlib.Core.Path.{◌≡◌, refl, sym, ap, ◌∙◌, fun_ext}
use mathlib.Core.List.{List, [], ◌∷◌, ◌++◌}
use mathlib.Core.Logic.{inl, inr, ⊎_elim}
use native.Mathlib.Omega.{arith}
use native.Mathlib.Nat.{div-add-mod', mod-lt, mul-le-mul_right, div-lt_iff_lt-mul, le_of_suc-le-suc}
use lib.ListN.{length, get_or}
use lib.Arith.{digits_div, digits_mod, digits_lt}
use Rattle.gcm_spec.specs.Gcm as gcm
use Rattle.model.specs.declared.Geometry.{Geometry}
use Rattle.model.specs.declared.Search.{Search}
use Rattle.model.specs.declared.Search.TheVariants.{Free, Bad, Full}
use Rattle.model.specs.Geometry.{device_length, cell_of, header_of, Allowed}
use Rattle.model.specs.Session.{Held, held, key_in, key_of, unmapped, unless}
use Rattle.model.specs.Opening.{Cell, At, NoCell, open_cell, or_next, first_cell, open_header, vek_of, vmk_below, slice_count, Chain, Keys, Broken}
use Rattle.model.specs.Opening.{link, chain, stored_entry, map_entries, Loaded, Tables, Spoilt, load_maps, open_refusal, OpenTo, OpenOutcome}
use Rattle.model.specs.Opening.{untouched, all_keys, all_counts, open_session, with_tables, with_keys, with_cell, open_model}
use Rattle.model.specs.Search.{first_free, start_place}
use Rattle.model.specs.Conditions.{TablesFit, Names}
use Rattle.model.proofs.Permutations.{names_below}
use Rattle.model.proofs.Tests.{equal}
use Rattle.model.proofs.Cells.{first_cell_lowest}
use Rattle.model.proofs.Keys.{all_keys_length, all_keys_above, all_counts_length, all_counts_above}
use Rattle.model.proofs.Searches.{Finds, first_free_finds}
use Rattle.model.proofs.Requests as requests
use Rattle.guarantees.specs.Openings.{Lowest, AllUnlocked}
use Rattle.guarantees.specs.Rules.{table_entry}
use Rattle.guarantees.specs.Points.{Handed, Lent, opens, Maps, StartsAt, Opens}
use Rattle.guarantees.proofs.Chains.{leads_zero}
use Rattle.guarantees.proofs.Orders.{missing_names, open_leads}
use Rattle.guarantees.proofs.SoundTables.{SoundTables}
use Rattle.guarantees.proofs.Blocks.{same_slot}
use Rattle.guarantees.proofs.Cases.{Stands}
use Rattle.guarantees.proofs.Unlocks.{UnlockedFrom, all_keys_unlocked, chain_unlocked}
use Rattle.guarantees.proofs.Tables.{Holds, load_holds, load_same}

-- ---- the lowest cell that opens: no cell above it counts

module _ (key : List ℕ) (c : ℕ → List ℕ) (k : ℕ) (vmk : List ℕ) (c' : ℕ → List ℕ) (same : (i : ℕ) → i ≤ k → c i ≡ c' i) where
  pub first_cell_same : (left i : ℕ) → first_cell key c left i ≡ At k vmk → (i ≤ k) × (first_cell key c' left i ≡ At k vmk)
  unfolding first_cell
  first_cell_same zero i e = let z : ◌≡◌ {A = ℕ} 0 1 = cc in absurd (omega arith)
  first_cell_same (suc left) i e = go (open_cell key i (c i)) refl (first_cell_same left (suc i)) e
    where
      this : (u : gcm.Opened) → open_cell key i (c i) ≡ u → i ≤ k → or_next (open_cell key i (c' i)) i (first_cell key c' left (suc i))
          ≡ or_next u i (first_cell key c' left (suc i))
      this u q l = ap (λ (v : gcm.Opened). or_next v i (first_cell key c' left (suc i))) (ap (open_cell key i) (sym (same i l)) ∙ q)

      go : (u : gcm.Opened) → open_cell key i (c i) ≡ u
          → (first_cell key c left (suc i) ≡ At k vmk → (suc i ≤ k) × (first_cell key c' left (suc i) ≡ At k vmk))
          → or_next u i (first_cell key c left (suc i)) ≡ At k vmk
          → (i ≤ k) × (or_next (open_cell key i (c' i)) i (first_cell key c' left (suc i)) ≡ At k vmk)
      go (gcm.Text v) q ih f = let i≡k : i ≡ k = cc in (omega arith, this (gcm.Text v) q (omega arith) ∙ f)
      go gcm.WrongTag q ih f = let r = ih f in (omega (arith, r.0), this gcm.WrongTag q (omega (arith, r.0)) ∙ r.1)

-- ---- the chain hangs on what the headers open to

-- Headers that open alike under every key.
abbrev pub OpenAlike : (d d' : ℕ → List ℕ) → ℕ → Type 0
OpenAlike d d' i = (vmk : List ℕ) → open_header vmk i (d i) ≡ open_header vmk i (d' i)

pub chain_same : (g : Geometry) (d d' : ℕ → List ℕ) (n : ℕ) (vmk veks counts : List ℕ) → ((i : ℕ) → i ≤ n → OpenAlike d d' i)
    → chain g d n vmk veks counts ≡ chain g d' n vmk veks counts
unfolding chain
chain_same g d d' zero vmk veks counts same =
    ap (λ (u : gcm.Opened). link g u (λ text. Keys (vek_of text ++ veks) (slice_count text ∷ counts))) (same zero (omega arith) vmk)
chain_same g d d' (suc n) vmk veks counts same =
    ap (λ (u : gcm.Opened). link g u (λ text. chain g d n (vmk_below text) (vek_of text ++ veks) (slice_count text ∷ counts)))
    (same (suc n) (omega arith) vmk)
    ∙ ap (link g (open_header vmk (suc n) (d' (suc n))))
    (fun_ext λ text. chain_same g d d' n (vmk_below text) (vek_of text ++ veks) (slice_count text ∷ counts) (λ i l. same i (omega arith)))

-- ---- what passes 1 to 5

abbrev pub open_refusal_of : List ℕ → Handed → Lent → ℕ
open_refusal_of device x l = open_refusal x.geometry (length device) (length x.key) (length l.maps) (length l.owners) x.perm

pub record Taken (device : List ℕ) (x : Handed) (l : Lent) : Type 0 where
  pub good : Allowed x.geometry
  pub long : length device ≡ device_length x.geometry
  pub keyed : length x.key ≡ 32
  pub tables : TablesFit x.geometry (length l.maps) (length l.owners)
  pub names : Names x.geometry.p x.perm

module _ (device : List ℕ) (x : Handed) (l : Lent) where
  pub open_refusal_none : open_refusal_of device x l ≡ 0 → Taken device x l
  open_refusal_none e =
      let q = requests.open_refusal_none _ _ _ _ _ _ e in
      record {
        good = q.allowed;
        long = q.long;
        keyed = q.key_long;
        tables = q.tables;
        names = missing_names x.geometry.p x.perm q.places q.named;
      }

  pub open_refusal_taken : Taken device x l → open_refusal_of device x l ≡ 0
  open_refusal_taken t =
      leads_zero (open_leads x.geometry (length device) (length x.key) (length l.maps) (length l.owners) x.perm)
      (λ f. f t.good, (λ f. f t.long, (λ f. f t.keyed, (λ f. f t.tables, (λ f. f t.names, tt)))))

-- ---- a served opening, taken apart

-- What is held after an opening, from a tape position on.
abbrev pub holding : ℕ → OpenOutcome → Held
holding position o = held o.maps o.owners position o.session

module _ (device : List ℕ) (x : Handed) (l : Lent) (k : ℕ) where
  abbrev g : Geometry
  g = x.geometry

  abbrev header : ℕ → List ℕ
  header = header_of g device

  abbrev cell : Cell
  cell = first_cell x.key (cell_of device) 15 0

  pub record Served : Type 0 where
    pub vmk : List ℕ
    pub keys : List ℕ
    pub counts : List ℕ
    pub maps : List ℕ
    pub owners : List ℕ
    pub accepted : open_refusal_of device x l ≡ 0
    pub lowest : cell ≡ At k vmk
    pub headers : chain g header k vmk [] [] ≡ Keys keys counts
    pub tables : load_maps g header (all_keys keys k) (all_counts counts k) k ≡ Tables maps owners

  abbrev pub opened_by : Served → OpenOutcome
  opened_by s =
      record {
        answer = OpenTo k;
        maps = s.maps;
        owners = s.owners;
        session = open_session g k (all_keys s.keys k) (all_counts s.counts k) s.owners x.perm;
      }

  abbrev pub held_by : Served → Held
  held_by s = holding x.position (opened_by s)

  pub served_is : (s : Served) → opens device x l ≡ opened_by s
  unfolding open_model with_cell with_keys with_tables
  served_is s =
      ap (λ (r : ℕ). unless r (untouched l.maps l.owners) (with_cell g x.perm header cell)) s.accepted
      ∙ ap (with_cell g x.perm header) s.lowest
      ∙ ap (with_keys g x.perm header k) s.headers
      ∙ ap (with_tables g x.perm k (all_keys s.keys k) (all_counts s.counts k)) s.tables

  pub served : (opens device x l).answer ≡ OpenTo k → Served
  unfolding open_model with_cell with_keys with_tables
  served e = top (open_refusal_of device x l) refl e
    where
      third : (n : ℕ) (vmk : List ℕ) → open_refusal_of device x l ≡ 0 → cell ≡ At n vmk
          → (keys counts : List ℕ) → chain g header n vmk [] [] ≡ Keys keys counts
          → (t : Loaded) → load_maps g header (all_keys keys n) (all_counts counts n) n ≡ t
          → (with_tables g x.perm n (all_keys keys n) (all_counts counts n) t).answer ≡ OpenTo k → Served
      third n vmk a b keys counts c (Spoilt r) d f = let z : ◌≡◌ {A = ℕ} 0 1 = cc in absurd (omega arith)
      third n vmk a b keys counts c (Tables m o) d f =
          let q : n ≡ k = cc in
          record {
            vmk = vmk;
            keys = keys;
            counts = counts;
            maps = m;
            owners = o;
            accepted = a;
            lowest = rw q at b;
            headers = rw q at c;
            tables = rw q at d;
          }

      second : (n : ℕ) (vmk : List ℕ) → open_refusal_of device x l ≡ 0 → cell ≡ At n vmk → (c : Chain) → chain g header n vmk [] [] ≡ c
          → (with_keys g x.perm header n c).answer ≡ OpenTo k → Served
      second n vmk a b (Broken r) c f = let z : ◌≡◌ {A = ℕ} 0 1 = cc in absurd (omega arith)
      second n vmk a b (Keys keys counts) c f = third n vmk a b keys counts c _ refl f

      first : open_refusal_of device x l ≡ 0 → (c : Cell) → cell ≡ c → (with_cell g x.perm header c).answer ≡ OpenTo k → Served
      first a NoCell b f = let z : ◌≡◌ {A = ℕ} 0 1 = cc in absurd (omega arith)
      first a (At n vmk) b f = second n vmk a b _ refl f

      top : (r : ℕ) → open_refusal_of device x l ≡ r
          → (unless r (untouched l.maps l.owners) (with_cell g x.perm header cell)).answer ≡ OpenTo k → Served
      top zero a f = first a _ refl f
      top (suc r) a f = let z : ◌≡◌ {A = ℕ} 0 1 = cc in absurd (omega arith)

  module _ (s : Served) where
    pub served_cell : Lowest device x.key k s.vmk
    served_cell =
        let low = first_cell_lowest x.key (cell_of device) 15 k s.vmk s.lowest in record { top = low.0; opens = low.1; below = low.2 }

    pub served_low : k < 15
    served_low = served_cell.top

    pub served_taken : Taken device x l
    served_taken = open_refusal_none device x l s.accepted

    pub served_small : x.geometry.p ≤ unmapped
    served_small = omega (arith, served_taken.good.slices_most)

    abbrev entries : ℕ → ℕ
    entries = map_entries g header (all_keys s.keys k)

    table : Holds g.p (all_counts s.counts k) entries ((k + 1) * g.p) s.maps s.owners
    table =
        load_holds g.p (all_counts s.counts k) entries ((k + 1) * g.p) served_small (mul-le-mul_right g.p (omega (arith, served_low)))
        s.maps s.owners s.tables

    inside : (i σ : ℕ) → i ≤ k → σ < g.p → i * g.p + σ < 15 * g.p
    inside i σ hi hσ = digits_lt (omega (arith, served_low)) hσ

    pub served_sound : SoundTables (held_by s)
    served_sound =
        record {
          whole = λ i σ hi hσ. rw (digits_div i hσ, digits_mod i hσ) at (table.whole (i * g.p + σ) (inside i σ hi hσ));
          apart = record {
            once = λ i σ j τ hi hj hσ hτ m e.
                same_slot g i σ j τ hσ hτ (table.once (i * g.p + σ) (j * g.p + τ) (inside i σ hi hσ) (inside j τ hj hτ) m e);
            owner = λ i ψ hi hψ m.
                sym (ap (λ (y : ℕ). get_or s.owners y 0) m.2)
                ∙ table.owns (i * g.p + m.0) (inside i m.0 hi m.1) (rw m.2 hψ)
                ∙ ap (λ (y : ℕ). y + 1) (digits_div i m.1);
            free = λ ψ hψ none. ⊎_elim (λ z. z) (λ d. absurd (mapped_by ψ none (table.used ψ hψ d))) (equal (get_or s.owners ψ 0) 0);
          };
        }
      where
        mapped_by : (ψ : ℕ) → ((i : ℕ) → i ≤ k → Maps (table_entry (held_by s)) g.p i ψ → ⊥)
            → (m : ℕ) × (m < (k + 1) * g.p) × (get_or s.maps m 0 ≡ ψ) → ⊥
        mapped_by ψ none u =
            let r : u.0 / g.p < k + 1 = (div-lt_iff_lt-mul served_taken.good.slices_least).1 u.1 in
            none (u.0 / g.p) (omega arith)
            (u.0 % g.p, mod-lt u.0 served_taken.good.slices_least, ap (λ (y : ℕ). get_or s.maps y 0) (div-add-mod' u.0 g.p) ∙ u.2)

    -- The first free place, or P: no place of the permutation names no slice.
    pub served_start : StartsAt s.owners g.p x.perm (opened_by s).session.start
    served_start = go (first_free s.owners g.p 0 x.perm) (first_free_finds s.owners g.p x.perm 0)
      where
        names : Names g.p x.perm
        names = served_taken.names

        go : (found : Search) → Finds s.owners g.p x.perm 0 found → StartsAt s.owners g.p x.perm (start_place g.p found)
        go (Free ψ n) f = inl f.0
        go (Bad n) f = absurd (omega (arith, f.bad, names_below g.p x.perm names n f.inside))
        go Full f = inr (λ m from l. f m from (omega (arith, l, names.places)), refl)

    pub served_place : (opened_by s).session.start ≤ g.p
    served_place = ⊎_elim (λ f. omega (arith, f.inside, served_taken.names.places)) (λ f. omega (arith, f.1)) served_start

    unlocked : UnlockedFrom device g k s.vmk 0 s.keys s.counts
    unlocked = chain_unlocked device g k s.vmk served_taken.good served_taken.long served_low s.keys s.counts s.headers

    keys_size : length s.keys ≡ 32 * (k + 1)
    keys_size = omega (arith, unlocked.size)

    counts_size : length s.counts ≡ k + 1
    counts_size = omega (arith, unlocked.many)

    -- The data keys and the counts are those that stand on the device.
    pub served_keys : AllUnlocked device g k s.vmk (opened_by s).session.keys (opened_by s).session.counts
    served_keys = all_keys_unlocked device g k s.vmk served_low s.keys s.counts unlocked

    pub served_stands : Stands (length device) (held_by s)
    served_stands =
        record {
          usable = record {
            opened = refl;
            allowed = served_taken.good;
            top = le_of_suc-le-suc served_low;
            place = served_place;
            counted = λ i l. let u = served_keys i (omega arith) in rw u.counts u.fits.0;
          };
          long = served_taken.long;
          tables = (table.maps_long, table.owners_long);
        }

    -- The entries that stand on the device.
    abbrev on_device : ℕ → ℕ → ℕ
    on_device i σ = stored_entry g (key_of (opened_by s).session i) (header i) σ

    -- The table has what the device has.
    pub served_entry : (i σ : ℕ) → i ≤ k → σ < x.geometry.p → on_device i σ ≡ table_entry (held_by s) i σ
    served_entry i σ hi hσ =
        sym (table.has (i * g.p + σ) (digits_lt (omega arith) hσ) ∙ rw (digits_div i hσ, digits_mod i hσ) refl)

    pub served_opens : Opens x k on_device (held_by s)
    served_opens =
        record {
          opened = refl;
          same = refl;
          top = refl;
          position = refl;
          keys_long = all_keys_length s.keys k keys_size served_low;
          keys_above = all_keys_above s.keys k keys_size served_low;
          counts_long = all_counts_length s.counts k counts_size served_low;
          counts_above = all_counts_above s.counts k counts_size served_low;
          maps_long = table.maps_long;
          owners_long = table.owners_long;
          mapped = λ i σ hi hσ. sym (served_entry i σ hi hσ);
          above = λ i σ hi low hσ. table.rest (i * g.p + σ) (omega (arith, mul-le-mul_right g.p hi)) (digits_lt low hσ);
          owner = λ i ψ hi hψ m. served_sound.apart.owner i ψ hi hψ (m.0, m.1, sym (served_entry i m.0 hi m.1) ∙ m.2);
          free = λ ψ hψ none.
              served_sound.apart.free ψ hψ (λ i hi m. none i hi (m.0, m.1, served_entry i m.0 hi m.1 ∙ m.2));
          start = served_start;
        }

-- ---- an opening of another device that has the same cells and headers up to k

pub served-same : (s t : List ℕ) (x : Handed) (l l' : Lent) (k : ℕ) → Taken t x l'
    → ((i : ℕ) → i ≤ k → cell_of s i ≡ cell_of t i) → ((i : ℕ) → i ≤ k → header_of x.geometry s i ≡ header_of x.geometry t i)
    → (a : Served s x l k) → (b : Served t x l' k) × (opened_by t x l' k b ≡ opened_by s x l k a)
served-same s t x l l' k ok cells headers a = (
  record {
    vmk = a.vmk;
    keys = a.keys;
    counts = a.counts;
    maps = a.maps;
    owners = a.owners;
    accepted = open_refusal_taken t x l' ok;
    lowest = (first_cell_same x.key (cell_of s) k a.vmk (cell_of t) cells 15 0 a.lowest).1;
    headers =
        sym (chain_same g₀ (header_of g₀ s) (header_of g₀ t) k a.vmk [] [] (λ i m vmk. ap (open_header vmk i) (headers i m))) ∙ a.headers;
    tables =
        sym (load_same g₀.p (all_counts a.counts k) _ _ ((k + 1) * g₀.p) 0 _ _
        (λ m lo hi. ap (λ (d : List ℕ). stored_entry g₀ (key_in (all_keys a.keys k) (m / g₀.p)) d (m % g₀.p)) (headers (m / g₀.p) (row m hi))))
        ∙ a.tables;
  },
  refl,
)
  where
    g₀ : Geometry
    g₀ = x.geometry

    row : (m : ℕ) → m < 0 + (k + 1) * x.geometry.p → m / x.geometry.p ≤ k
    row m hi = let r : m / x.geometry.p < k + 1 = (div-lt_iff_lt-mul ok.good.slices_least).1 (omega arith) in omega arith
