-- A device that a session left, opened again with the same key: the same volumes, with the same arrays. Assumes nothing.
use Prim.Native.Nat.{ℕ, ◌+◌, ◌*◌, ◌/◌, ◌%◌, ◌≤◌, ◌<◌}
use mathlib.Core.Path.{◌≡◌, sym, ap, ap₂, ◌∙◌, subst}
use mathlib.Core.List.{List, [], ◌∷◌}
use mathlib.Core.Logic.{◌⊎◌, inl, inr, ⊎_elim}
use native.Mathlib.Omega.{arith}
use native.Mathlib.Nat.{div-add-mod', mod-lt, div-lt_iff_lt-mul, mul-le-mul_left, mul-le-mul_right}
use lib.ListN.{length}
use Rattle.gcm_spec.specs.Gcm.{gcm_open}
use Rattle.model.specs.declared.Geometry.{Geometry}
use Rattle.model.specs.declared.Session.{Session}
use Rattle.model.specs.Parts.{part}
use Rattle.model.specs.Geometry.{Allowed, map_blocks, header_blocks, cell_start, cell_of, header_start, header_of, map_start, slice_start}
use Rattle.model.specs.Session.{Held, held, key_of, slice_of, offset_of, unmapped, starting_at}
use Rattle.model.specs.Opening.{open_header, stored_entry, map_entries, Tables, load_maps, OpenOutcome, all_keys, all_counts}
use Rattle.model.specs.Read.{deciphered}
use Rattle.model.specs.Conditions.{TablesFit, BelowCount, Names}
use Rattle.guarantees.specs.Runs.{State}
use Rattle.guarantees.specs.Arrays.{Arrays}
use Rattle.guarantees.specs.Rules.{table_entry}
use Rattle.guarantees.specs.Points.{Handed, Lent, opens, holds, begin, Reopens}
use Rattle.model.proofs.Parts.{part_part}
use Rattle.model.proofs.Bounds.{b_bounds}
use Rattle.model.proofs.Requests.{asked_slice}
use Rattle.model.proofs.Tests.{below}
use Rattle.guarantees.proofs.Tables.{load_served}
use Rattle.guarantees.proofs.Opened.{first_cell_same, chain_same, open_refusal_taken, Served, opened_by, served_is, served_low}
use Rattle.guarantees.proofs.Opened.{served_taken, served_small}
use Rattle.guarantees.proofs.Point2.{Open, Kept}

-- ---- a device that a session of the opening sv left, with what was held then

module _ (s : List ℕ) (x : Handed) (l : Lent) (k : ℕ) (sv : Served s x l k) (perm : List ℕ) (at : ℕ) (l' : Lent)
    (device maps owners : List ℕ) (position start : ℕ) (arrays : Arrays) where
  abbrev g : Geometry
  g = x.geometry

  abbrev h : Held
  h = held maps owners position (starting_at start (opened_by s x l k sv).session)

  abbrev y : Handed
  y = record { geometry = g; key = x.key; perm = perm; position = at }

  module _ (op : Open (begin s x l) arrays (record { device = device; held = h })) where
    ok : Allowed g
    ok = op.stands.usable.allowed

    low : k + 1 ≤ 15
    low = omega (arith, served_low s x l k sv)

    wide : 1024 ≤ g.b
    wide = (b_bounds g ok).0

    cells_stay : (i : ℕ) → i ≤ k → cell_of s i ≡ cell_of device i
    unfolding map_start slice_start header_blocks
    cells_stay i hi = sym (op.header (cell_start i) 60 (omega (arith, wide, low)) (λ v. inl (omega (arith, wide, low))))

    -- A part of a header's first block.
    header_stays : (i : ℕ) → i ≤ k → (a n : ℕ) → a + n ≤ 1024 → part a n (header_of g s i) ≡ part a n (header_of g device i)
    unfolding map_start slice_start header_blocks
    header_stays i hi a n f =
        let i<15 : i < 15 = omega (arith, low) in
        let size = g.b * (1 + map_blocks g) in
        let at = header_start g i + a in
        part_part s (header_start g i) size a n (omega (arith, wide))
        ∙ sym (op.header at n (omega (arith, wide, mul-le-mul_left g.b (mul-le-mul_right (1 + map_blocks g) i<15)))
        (λ v. ⊎_elim (λ v<i. inr (omega (arith, mul-le-mul_left g.b (mul-le-mul_right (1 + map_blocks g) v<i))))
        (λ i≤v. inl (omega (arith, wide, mul-le-mul_left g.b (mul-le-mul_right (1 + map_blocks g) i≤v)))) (below v i)))
        ∙ sym (part_part device (header_start g i) size a n (omega (arith, wide)))

    headers_stay : (i : ℕ) → i ≤ k → (vmk : List ℕ) → open_header vmk i (header_of g s i) ≡ open_header vmk i (header_of g device i)
    headers_stay i hi vmk =
        ap₂ (λ (iv text : List ℕ). gcm_open vmk iv ((16 + i) ∷ []) text (part 84 16 (header_of g s i)))
        (header_stays i hi 0 12 (omega arith)) (header_stays i hi 12 72 (omega arith))
        ∙ ap (gcm_open vmk (part 0 12 (header_of g device i)) ((16 + i) ∷ []) (part 12 72 (header_of g device i))) (header_stays i hi 84 16 (omega arith))

    abbrev entries : ℕ → ℕ
    entries = map_entries g (header_of g device) (all_keys sv.keys k)

    row : (m : ℕ) → m < (k + 1) * g.p → m / g.p ≤ k
    row m hm = let r : m / g.p < k + 1 = (div-lt_iff_lt-mul ok.slices_least).1 hm in omega arith

    column : (m : ℕ) → m % g.p < g.p
    column m = mod-lt m ok.slices_least

    entries_are : (m : ℕ) → m < (k + 1) * g.p → entries m ≡ table_entry h (m / g.p) (m % g.p)
    entries_are m hm = op.on_device_lem (m / g.p) (m % g.p) (row m hm) (column m)

    reloaded : (m : List ℕ) × (o : List ℕ) × (load_maps g (header_of g device) (all_keys sv.keys k) (all_counts sv.counts k) k ≡ Tables m o)
    reloaded =
        load_served g.p (all_counts sv.counts k) entries ((k + 1) * g.p) (served_small s x l k sv) (mul-le-mul_right g.p low)
        (λ m hm. ⊎_elim inl (λ less. inr (less.0, less.1, λ n hn e. apart m hm less.0 n hn e)) (whole m hm))
      where
        whole : (m : ℕ) → m < (k + 1) * g.p → (entries m ≡ unmapped) ⊎ ((entries m < g.p) × BelowCount g.p (all_counts sv.counts k) m)
        whole m hm = rw (entries_are m hm) (op.sound.whole (m / g.p) (m % g.p) (row m hm) (column m))

        apart : (m : ℕ) → m < (k + 1) * g.p → entries m < g.p → (n : ℕ) → n < m → entries n ≡ entries m → ⊥
        apart m hm less n n<m e =
            let hn : n < (k + 1) * g.p = omega arith in
            let q =
            op.sound.apart.once (m / g.p) (m % g.p) (n / g.p) (n % g.p) (row m hm) (row n hn) (column m) (column n)
            (rw (entries_are m hm) at less) (sym (entries_are m hm) ∙ sym e ∙ entries_are n hn) in
            let m≡n : m ≡ n = sym (div-add-mod' m g.p) ∙ ap₂ (λ (a b : ℕ). a * g.p + b) q.0 q.1 ∙ div-add-mod' n g.p in
            omega arith

    module _ (names : Names g.p perm) (fit : TablesFit g (length l'.maps) (length l'.owners)) where
      served_again : Served device y l' k
      served_again =
          record {
            vmk = sv.vmk;
            keys = sv.keys;
            counts = sv.counts;
            maps = reloaded.0;
            owners = reloaded.1;
            accepted =
                open_refusal_taken device y l' (record {
                  good = ok;
                  long = op.stands.long;
                  keyed = (served_taken s x l k sv).keyed;
                  tables = fit;
                  names = names;
                });
            lowest = (first_cell_same x.key (cell_of s) k sv.vmk (cell_of device) cells_stay 15 0 sv.lowest).1;
            headers = sym (chain_same g (header_of g s) (header_of g device) k sv.vmk [] [] headers_stay) ∙ sv.headers;
            tables = reloaded.2;
          }

      reopens : Reopens device y l' k (all_counts sv.counts k) arrays
      unfolding served_again
      reopens =
          record {
            served = ap (λ (o : OpenOutcome). o.answer) is;
            counted = ap (λ (o : OpenOutcome). o.session.counts) is;
            same = λ i a hi ha.
                ap (λ (o : OpenOutcome).
                deciphered g (key_of o.session i) (stored_entry g (key_of o.session i) (header_of g device i) (slice_of g a)) (offset_of g a) device) is
                ∙ ap (λ (φ : ℕ). deciphered g (key_of h.session i) φ (offset_of g a) device)
                (op.on_device_lem i (slice_of g a) hi (omega (arith, asked_slice op.stands hi ha)))
                ∙ sym (op.holds i a hi ha);
          }
        where
          is : opens device y l' ≡ opened_by device y l' k served_again
          is = served_is device y l' k served_again

-- ---- after any list of calls

pub run_again : (s : List ℕ) (x : Handed) (l : Lent) (k : ℕ) → Served s x l k → (u : State) (arrays : Arrays) → Kept (begin s x l) arrays u
    → (y : Handed) (l' : Lent) → y.geometry ≡ x.geometry → y.key ≡ x.key
    → Names y.geometry.p y.perm → TablesFit y.geometry (length l'.maps) (length l'.owners)
    → Reopens u.device y l' k (holds s x l).session.counts arrays
run_again s x l k sv u arrays kept y l' eg ek names fit =
    subst (λ (z : Handed). Reopens u.device z l' k (holds s x l).session.counts arrays) (sym same)
    (subst Then (sym session) literal kept.sound)
  where
    y₀ : Handed
    y₀ = record { geometry = x.geometry; key = x.key; perm = y.perm; position = y.position }

    same : y ≡ y₀
    same = ap₂ (λ (g : Geometry) (key : List ℕ). record { geometry = g; key = key; perm = y.perm; position = y.position }) eg ek

    h₀ : Held
    h₀ = kept.last

    Then : Session → Type 0
    Then c = Open (begin s x l) arrays (record { device = u.device; held = held h₀.maps h₀.owners h₀.position c })
        → Reopens u.device y₀ l' k (holds s x l).session.counts arrays

    session : h₀.session ≡ starting_at h₀.session.start (opened_by s x l k sv).session
    session = kept.sound.session ∙ ap (λ (o : OpenOutcome). starting_at h₀.session.start o.session) (served_is s x l k sv)

    literal : Then (starting_at h₀.session.start (opened_by s x l k sv).session)
    literal op =
        rw (served_is s x l k sv)
        (reopens s x l k sv y.perm y.position l' u.device h₀.maps h₀.owners h₀.position h₀.session.start arrays op
        (subst (λ (g : Geometry). Names g.p y.perm) eg names)
        (subst (λ (g : Geometry). TablesFit g (length l'.maps) (length l'.owners)) eg fit))
