-- Laws of the refusals of each call: what holds where none of them applies. Assumes nothing.
use Prim.Native.Nat.{ℕ, ◌+◌, ◌-◌, ◌*◌, ◌/◌, ◌%◌, ◌≤◌, ◌<◌}
use mathlib.Core.Path.{◌≡◌, refl, ap, subst, ◌∙◌}
use mathlib.Core.List.{List}
use mathlib.Core.Bool.{Bool, true, false, not}
use mathlib.Core.Logic.{◌⊎◌, ⊎_elim}
use native.Mathlib.Nat.{div-add-mod', mod-lt, min-le_left, min-le_right}
use native.Mathlib.Omega.{arith}
use lib.Arith.{digits_div}
use lib.Dec.{ltb}
use lib.ListN.{length}
use borrow.Author.Tests.{leb-false, ltb-true, ltb-false, eqb-true, eqb-false, not-false, le-ltb, lt-leb}
use Rattle.refusals.proofs.Refuse.{refuse_none, refuse_false}
use Rattle.model.specs.declared.Geometry.{Geometry}
use Rattle.model.specs.declared.Session.{Session}
use Rattle.model.specs.Geometry.{Allowed, count_in, bad_count, any_bad_count, per_block, device_length}
use Rattle.model.specs.Session.{Held, geometry, count_of, block_count, slot, slice_of, entry, entry_of, unmapped, bad_entry_at, standing, asked, short}
use Rattle.model.specs.Conditions.{CountsFit, Counted, Usable, TablesFit, EntryFits, BlockFits, Enough}
use Rattle.model.specs.Maps.{entries_in, bad_in_block}
use Rattle.model.specs.Permutation.{missing}
use Rattle.model.specs.Opening.{open_refusal}
use Rattle.model.specs.Read.{read_refusal}
use Rattle.model.specs.Write.{write_refusal}
use Rattle.model.specs.Release.{release_refusal}
use Rattle.model.specs.Format.{format_need, format_refusal}
use Rattle.model.specs.Shuffle.{shuffle_refusal}
use Rattle.model.proofs.Tests.{lt_min, or_true, or_false, equal_passes, bad_geometry_none, bad_geometry_allowed, bad_entry_false, bad_entry-fits}
use Rattle.model.proofs.Tests.{bad_count_false, bad_count-fits, bad_entry_at_false, bad_entry_at_fits}
use Rattle.model.proofs.Below.{any_below_none, any_below_fails}
use Rattle.model.proofs.Bounds.{per_block_least, slot_lt, slice_of_lt}

-- ---- counts

module _ (p : ℕ) (counts : List ℕ) (n : ℕ) where
  pub any_bad_count_none : any_bad_count p counts n ≡ false → CountsFit p counts n
  unfolding any_bad_count
  any_bad_count_none e i l = bad_count_false p (count_in counts i) (any_below_fails _ n e i l)

  pub any_bad_count_fits : CountsFit p counts n → any_bad_count p counts n ≡ false
  unfolding any_bad_count
  any_bad_count_fits fits = any_below_none (λ i. bad_count p (count_in counts i)) n (λ i l. bad_count-fits p (count_in counts i) (fits i l))

-- ---- 20, 2, 4

-- A session that stands on a device and tables of these lengths.
pub record Stands (device maps owners : ℕ) (s : Session) : Type 0 where
  pub usable : Usable s
  pub long : device ≡ device_length s.geometry
  pub tables : TablesFit s.geometry maps owners

module _ (device maps owners : ℕ) (s : Session) (rest : ℕ) where
  pub standing_none : standing device maps owners s rest ≡ 0 → Stands device maps owners s × (rest ≡ 0)
  unfolding standing
  standing_none e =
      let p1 = refuse_none _ _ _ e in
      let p2 = bad_geometry_none _ _ _ p1.1 in
      let p3 = refuse_none _ _ _ p2.1 in
      let p4 = refuse_none _ _ _ p3.1 in
      let p5 = refuse_none _ _ _ p4.1 in
      let p6 = refuse_none _ _ _ p5.1 in
      let p7 = refuse_none _ _ _ p6.1 in
      let p8 = refuse_none _ _ _ p7.1 in (
        record {
          usable =
              record {
                opened = not-false _ p1.0;
                allowed = p2.0;
                top = ltb-false _ _ p3.0;
                place = ltb-false _ _ p4.0;
                counted = any_bad_count_none _ _ _ p5.0;
              };
          long = eqb-true _ _ (not-false _ p6.0);
          tables = (eqb-true _ _ (not-false _ p7.0), eqb-true _ _ (not-false _ p8.0));
        },
        p8.1,
      )

  pub standing_stands : Stands device maps owners s → standing device maps owners s rest ≡ rest
  unfolding standing
  standing_stands q =
      refuse_false _ _ _ (ap not q.usable.opened)
      ∙ bad_geometry_allowed _ _ _ q.usable.allowed
      ∙ refuse_false _ _ _ (le-ltb _ _ q.usable.top)
      ∙ refuse_false _ _ _ (le-ltb _ _ q.usable.place)
      ∙ refuse_false _ _ _ (any_bad_count_fits _ _ _ q.usable.counted)
      ∙ refuse_false _ _ _ (equal_passes _ _ q.long)
      ∙ refuse_false _ _ _ (equal_passes _ _ q.tables.0)
      ∙ refuse_false _ _ _ (equal_passes _ _ q.tables.1)

-- ---- 11, 12, 13, 9

-- A block that a request may ask for.
pub record Asked (maps : List ℕ) (s : Session) (i a len : ℕ) : Type 0 where
  pub volume : i ≤ s.k
  pub address : a < block_count s i
  pub size : len ≡ s.geometry.b
  pub mapped : EntryFits s.geometry (entry_of maps s.geometry i a)

module _ (maps : List ℕ) (s : Session) (i a len : ℕ) where
  pub asked_none : asked maps s i a len ≡ 0 → Asked maps s i a len
  unfolding asked
  asked_none e =
      let p1 = refuse_none _ _ _ e in
      let p2 = refuse_none _ _ _ p1.1 in
      let p3 = refuse_none _ _ _ p2.1 in
      let p4 = refuse_none _ _ _ p3.1 in
      record {
        volume = ltb-false _ _ p1.0;
        address = leb-false _ _ p2.0;
        size = eqb-true _ _ (not-false _ p3.0);
        mapped = bad_entry_false _ _ p4.0;
      }

  pub asked_served : Asked maps s i a len → asked maps s i a len ≡ 0
  unfolding asked
  asked_served q =
      refuse_false _ _ _ (le-ltb _ _ q.volume)
      ∙ refuse_false _ _ _ (lt-leb _ _ q.address)
      ∙ refuse_false _ _ _ (equal_passes _ _ q.size)
      ∙ refuse_false _ _ _ (bad_entry-fits _ _ q.mapped)

-- ---- 21

pub short_false : (tape position need : ℕ) → short tape position need ≡ false → Enough tape position need
unfolding short
short_false tape position need e =
    let q = or_false (ltb tape position) (ltb (tape - position) need) e in
    omega (arith, ltb-false tape position q.0, ltb-false (tape - position) need q.1)

pub short_true : (tape position need : ℕ) → short tape position need ≡ true → Enough tape position need → ⊥
unfolding short
short_true tape position need e l =
    ⊎_elim (λ q. omega (arith, ltb-true tape position q)) (λ q. omega (arith, ltb-true (tape - position) need q))
    (or_true (ltb tape position) (ltb (tape - position) need) e)

short_enough : (tape position need : ℕ) → Enough tape position need → short tape position need ≡ false
unfolding short
short_enough tape position need l = rw (le-ltb tape position (omega arith), le-ltb (tape - position) need (omega arith)) refl

-- ---- read and find

module _ (device : ℕ) (maps owners : List ℕ) (s : Session) (i a len : ℕ) where
  -- A read or a find that nothing refuses.
  pub record Ready : Type 0 where
    pub stands : Stands device (length maps) (length owners) s
    pub asked : Asked maps s i a len

  pub read_refusal_none : read_refusal device maps owners s i a len ≡ 0 → Ready
  unfolding read_refusal
  read_refusal_none e = let p = standing_none _ _ _ _ _ e in record { stands = p.0; asked = asked_none _ _ _ _ _ p.1 }

  pub read_refusal_served : Ready → read_refusal device maps owners s i a len ≡ 0
  unfolding read_refusal
  read_refusal_served q = standing_stands _ _ _ _ _ q.stands ∙ asked_served _ _ _ _ _ q.asked

  -- ---- write

  module _ (perm : ℕ) where
    -- A write that none of the refusals before the search and the tape applies to.
    pub record Writable : Type 0 where
      pub none : write_refusal device maps owners s i a len perm ≡ 0
      pub stands : Stands device (length maps) (length owners) s
      pub places : perm ≡ s.geometry.p
      pub asked : Asked maps s i a len

    pub write_refusal_none : write_refusal device maps owners s i a len perm ≡ 0 → Writable
    unfolding write_refusal
    write_refusal_none e =
        let p = standing_none _ _ _ _ _ e in
        let q = refuse_none _ _ _ p.1 in
        record { none = e; stands = p.0; places = eqb-true _ _ (not-false _ q.0); asked = asked_none _ _ _ _ _ q.1 }

-- ---- the map block of an entry (document 02, P7)

module _ (maps : List ℕ) (s : Session) (i σ : ℕ) where
  -- Entry e of the block, where it stands in the row, and the number of the entries that are judged.
  abbrev c : ℕ
  c = per_block s.geometry

  abbrev bad : ℕ → Bool
  bad e = bad_entry_at s.geometry.p (count_of s i) (σ / c * c + e) (entry maps s.geometry i (σ / c * c + e))

  -- No bad entry is found where every entry of the block fits, and the other way round.
  pub bad_in_block_none : 1 ≤ c → bad_in_block maps s i σ ≡ false → BlockFits maps s i σ
  unfolding bad_in_block
  bad_in_block_none least e τ l same =
      let d = div-add-mod' τ c in
      let at : σ / c * c + τ % c ≡ τ = rw (← same) d in
      let judged : τ % c < entries_in s.geometry (σ / c) = lt_min c _ (mod-lt τ least) (omega (arith, at, l)) in
      subst (λ (n : ℕ). (entry maps s.geometry i n ≡ unmapped) ⊎ ((entry maps s.geometry i n < s.geometry.p) × (n < count_of s i))) at
      (bad_entry_at_false _ _ _ _ (any_below_fails bad _ e (τ % c) judged))

  pub bad_in_block_fits : 1 ≤ c → BlockFits maps s i σ → bad_in_block maps s i σ ≡ false
  unfolding bad_in_block
  bad_in_block_fits least fits = any_below_none bad _ (λ e l. bad_entry_at_fits _ _ _ _ (fits (σ / c * c + e) (inside e l) (same e l)))
    where
      inside : (e : ℕ) → e < entries_in s.geometry (σ / c) → σ / c * c + e < s.geometry.p
      inside e l = omega (arith, min-le_right c (s.geometry.p - σ / c * c))

      same : (e : ℕ) → e < entries_in s.geometry (σ / c) → (σ / c * c + e) / c ≡ σ / c
      same e l = digits_div (σ / c) (omega (arith, min-le_left c (s.geometry.p - σ / c * c)))

-- ---- release

module _ (device : ℕ) (h : Held) (i σ : ℕ) (perm : List ℕ) (tape : ℕ) where
  -- A release that is not refused.
  pub record Releasable : Type 0 where
    pub stands : Stands device (length h.maps) (length h.owners) h.session
    pub places : length perm ≡ (geometry h).p
    pub named : missing (geometry h).p perm ≡ false
    pub volume : i ≤ h.session.k
    pub slice : σ < count_of h.session i
    pub block : BlockFits h.maps h.session i σ
    pub mapped : entry h.maps (geometry h) i σ < (geometry h).p
    pub enough : Enough tape h.position 16

  pub release_refusal_none : release_refusal device h i σ perm tape ≡ 0 → Releasable
  unfolding release_refusal
  release_refusal_none e =
      let p1 = standing_none _ _ _ _ _ e in
      let p2 = refuse_none _ _ _ p1.1 in
      let p3 = refuse_none _ _ _ p2.1 in
      let p4 = refuse_none _ _ _ p3.1 in
      let p5 = refuse_none _ _ _ p4.1 in
      let p6 = refuse_none _ _ _ p5.1 in
      let p7 = refuse_none _ _ _ p6.1 in
      let p8 = refuse_none _ _ _ p7.1 in
      let block = bad_in_block_none _ _ i σ (per_block_least _ p1.0.usable.allowed) p6.0 in
      let volume = ltb-false h.session.k i p4.0 in
      let slice = leb-false (count_of h.session i) σ p5.0 in
      let count = p1.0.usable.counted i (omega (arith, volume)) in
      record {
        stands = p1.0;
        places = eqb-true _ _ (not-false _ p2.0);
        named = p3.0;
        volume = volume;
        slice = slice;
        block = block;
        mapped =
            ⊎_elim (λ u. absurd (eqb-false _ _ p7.0 u)) (λ l. l.0) (block σ (omega (arith, slice, count.1)) refl);
        enough = short_false _ _ _ p8.0;
      }

-- ---- opening: 1 to 5

-- What an opening may be handed.
pub record Handed (g : Geometry) (device key maps owners : ℕ) (perm : List ℕ) : Type 0 where
  pub allowed : Allowed g
  pub long : device ≡ device_length g
  pub key_long : key ≡ 32
  pub tables : TablesFit g maps owners
  pub places : length perm ≡ g.p
  pub named : missing g.p perm ≡ false

pub open_refusal_none : (g : Geometry) (device key maps owners : ℕ) (perm : List ℕ) → open_refusal g device key maps owners perm ≡ 0
    → Handed g device key maps owners perm
unfolding open_refusal
open_refusal_none g device key maps owners perm e =
    let p1 = bad_geometry_none _ _ _ e in
    let p2 = refuse_none _ _ _ p1.1 in
    let p3 = refuse_none _ _ _ p2.1 in
    let p4 = refuse_none _ _ _ p3.1 in
    let p5 = refuse_none _ _ _ p4.1 in
    let p6 = refuse_none _ _ _ p5.1 in
    let p7 = refuse_none _ _ _ p6.1 in
    record {
      allowed = p1.0;
      long = eqb-true _ _ (not-false _ p2.0);
      key_long = eqb-true _ _ (not-false _ p3.0);
      tables = (eqb-true _ _ (not-false _ p4.0), eqb-true _ _ (not-false _ p5.0));
      places = eqb-true _ _ (not-false _ p6.0);
      named = p7.0;
    }

-- ---- formatting: 1, 2, 23, 3, 21

module _ (device : ℕ) (g : Geometry) (n keys : ℕ) (counts : List ℕ) (tape position : ℕ) where
  -- What a formatting may be handed.
  pub record Formattable : Type 0 where
    pub allowed : Allowed g
    pub counted : Counted g.p n counts
    pub long : device ≡ device_length g
    pub count : (1 ≤ n) × (n ≤ 15)
    pub keyed : keys ≡ 32 * n
    pub enough : Enough tape position (format_need g n)

  pub format_refusal_none : (rest : ℕ) → format_refusal device g n keys counts tape position rest ≡ 0 → Formattable
  unfolding format_refusal
  format_refusal_none rest e =
      let p1 = bad_geometry_none _ _ _ e in
      let p2 = refuse_none _ _ _ p1.1 in
      let p3 = refuse_none _ _ _ p2.1 in
      let p4 = refuse_none _ _ _ p3.1 in
      let p5 = refuse_none _ _ _ p4.1 in
      let p6 = refuse_none _ _ _ p5.1 in
      let p7 = refuse_none _ _ _ p6.1 in
      let p8 = refuse_none _ _ _ p7.1 in
      record {
        allowed = p1.0;
        counted = (eqb-true _ _ (not-false _ p2.0), any_bad_count_none _ _ _ p3.0);
        long = eqb-true _ _ (not-false _ p4.0);
        count = (ltb-false _ _ p5.0, ltb-false _ _ p6.0);
        keyed = eqb-true _ _ (not-false _ p7.0);
        enough = short_false _ _ _ p8.0;
      }

  pub format_refusal_rest : Formattable → (rest : ℕ) → format_refusal device g n keys counts tape position rest ≡ rest
  unfolding format_refusal
  format_refusal_rest q rest =
      bad_geometry_allowed _ _ _ q.allowed
      ∙ refuse_false _ _ _ (equal_passes _ _ q.counted.0)
      ∙ refuse_false _ _ _ (any_bad_count_fits _ _ _ q.counted.1)
      ∙ refuse_false _ _ _ (equal_passes _ _ q.long)
      ∙ refuse_false _ _ _ (le-ltb _ _ q.count.0)
      ∙ refuse_false _ _ _ (le-ltb _ _ q.count.1)
      ∙ refuse_false _ _ _ (equal_passes _ _ q.keyed)
      ∙ refuse_false _ _ _ (short_enough _ _ _ q.enough)

-- ---- shuffle: 1, 4, and 21 where the position is past the end

-- A shuffle that no refusal before its draws applies to: the geometry is allowed, the list P long, and the position not past the end.
pub record Shufflable (g : Geometry) (list tape position : ℕ) : Type 0 where
  pub allowed : Allowed g
  pub long : list ≡ g.p
  pub inside : position ≤ tape

pub shuffle_refusal_none : (g : Geometry) (list tape position : ℕ) → shuffle_refusal g list tape position ≡ 0
    → Shufflable g list tape position
unfolding shuffle_refusal
shuffle_refusal_none g list tape position e =
    let ok = bad_geometry_none 0 g _ e in
    let p1 = refuse_none _ 3 _ ok.1 in
    let p2 = refuse_none _ 20 _ p1.1 in
    record { allowed = ok.0; long = eqb-true list _ (not-false _ p1.0); inside = ltb-false tape position p2.0 }

-- ---- the entry of a logical slice, and of an asked block

-- The entry of a logical slice below N stands in the map table.
pub slice_slot : {device maps owners : ℕ} {s : Session} (i σ : ℕ) → Stands device maps owners s → i ≤ s.k → σ < count_of s i
    → slot s.geometry i σ < maps
slice_slot {s = s} i σ h v l =
    let count = h.usable.counted i (omega (arith, v)) in
    rw h.tables.0 (slot_lt s.geometry h.usable.allowed i σ (omega (arith, v, h.usable.top)) (omega (arith, l, count.1)))

-- The logical slice of an asked block is one of the volume's N, which are at most P.
pub asked_slice : {device maps owners : ℕ} {s : Session} {i a : ℕ} → Stands device maps owners s → i ≤ s.k → a < block_count s i
    → (slice_of s.geometry a < count_of s i) × (count_of s i ≤ s.geometry.p)
asked_slice {s = s} {i = i} {a = a} h v l =
    (slice_of_lt s.geometry h.usable.allowed (count_of s i) a l, (h.usable.counted i (omega arith)).1)

pub asked-slot : {device owners : ℕ} {maps : List ℕ} {s : Session} {i a len : ℕ} → Stands device (length maps) owners s → Asked maps s i a len
    → slot s.geometry i (slice_of s.geometry a) < length maps
asked-slot {i = i} h q = slice_slot i _ h q.volume (asked_slice h q.volume q.address).0
