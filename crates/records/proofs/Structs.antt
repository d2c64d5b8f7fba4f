-- Laws of the structs: how long they are, that they read back, and how code puts them together. Assumes nothing.
use mathlib.Core.Path.{◌≡◌, refl, sym, ap, ap₂, ◌∙◌, subst}
use mathlib.Core.Bool.{Bool, true, false}
use mathlib.Core.List.{List, [], ◌++◌, append-nil}
use Prim.Native.Nat.{ℕ, ◌+◌, ◌*◌, ◌^◌, ◌<◌}
use native.Mathlib.Omega.{arith}
use lib.Dec.{eqb}
use Rattle.std.specs.Int.{from_bool}
use lib.ListN.{length, get_or, take, length-append}
use lib.Seq.{length-take-le}
use borrow.Author.Tests.{ne_eqb}
use Rattle.model.specs.declared.Geometry.{Geometry}
use Rattle.model.specs.declared.Session.{Session}
use Rattle.model.specs.Parts.{part, overlay}
use Rattle.model.specs.Session.{count_of}
use Rattle.model.proofs.Parts.{part_first, part_next, part_last, part_left, part_right}
use Rattle.places.proofs.Parts.{overlay_append, overlay_all}
use Rattle.records.specs.Numbers.{eight_at, eight_bytes, numbers_bytes, three_bytes, little_number}
use Rattle.records.specs.Structs.{bit_of, geometry_in, geometry_bytes, session_in, session_bytes, handed_back}
use Rattle.records.specs.Theorems.{Numbers64, Fits, SessionFields, Fields}
use Rattle.records.proofs.Numbers.{little_endian-length, eight_bytes_again}
use Rattle.records.proofs.Numbers.{numbers_at_entries, numbers_bytes-length, numbers_bytes_part, numbers_bytes_turn}

-- ---- lengths

pub eight_bytes-length : (x : ℕ) → length (eight_bytes x) ≡ 8
eight_bytes-length x = little_endian-length 8 x

pub three_bytes-length : (x y z : ℕ) → length (three_bytes x y z) ≡ 24
three_bytes-length x y z =
    length-append (eight_bytes x) (eight_bytes y ++ eight_bytes z)
    ∙ ap₂ (λ (m n : ℕ). m + n) (eight_bytes-length x)
    (length-append (eight_bytes y) (eight_bytes z) ∙ ap₂ (λ (m n : ℕ). m + n) (eight_bytes-length y) (eight_bytes-length z))

pub session_bytes-length : (s : Session) → length s.keys ≡ 480 → length s.counts ≡ 15 → length (session_bytes s) ≡ 648
session_bytes-length s keys counts =
    let g = s.geometry in
    let numbers = three_bytes s.k (bit_of s.opened) s.start in
    let rest = s.keys ++ numbers_bytes s.counts in
    omega (
      arith,
      length-append (geometry_bytes g) (numbers ++ rest),
      length-append numbers rest,
      length-append s.keys (numbers_bytes s.counts),
      three_bytes-length g.b g.s g.p,
      three_bytes-length s.k (bit_of s.opened) s.start,
      numbers_bytes-length s.counts,
      keys,
      counts,
    )

-- ---- reading back

-- Bytes over those that end where they begin.
overlay_next : (r : List ℕ) (at n : ℕ) (d e : List ℕ) → length d ≡ n → overlay (overlay r at d) (at + n) e ≡ overlay r at (d ++ e)
overlay_next r at n d e l = ap (λ (m : ℕ). overlay (overlay r at d) (at + m) e) (sym l) ∙ overlay_append r at d e

-- The library's conversion gives the same number.
pub bit_of-from_bool : (b : Bool) → from_bool b ≡ bit_of b
bit_of-from_bool true = refl
bit_of-from_bool false = refl

bit_small : (b : Bool) → bit_of b < 2 ^ 64
bit_small true = omega arith
bit_small false = omega arith

-- A number that stands at its place reads back.
eight_again : (at x : ℕ) (r : List ℕ) → part at 8 r ≡ eight_bytes x → x < 2 ^ 64 → eight_at at r ≡ x
eight_again at x r e h = ap little_number e ∙ eight_bytes_again x h

module _ (x y z : ℕ) (rest : List ℕ) where
  first_part : part 0 8 (three_bytes x y z ++ rest) ≡ eight_bytes x
  first_part =
      part_left (three_bytes x y z) rest 0 8 (omega (arith, three_bytes-length x y z))
      ∙ part_first (eight_bytes x) (eight_bytes y ++ eight_bytes z) 8 (eight_bytes-length x)

  second_part : part 8 8 (three_bytes x y z ++ rest) ≡ eight_bytes y
  second_part =
      part_left (three_bytes x y z) rest 8 8 (omega (arith, three_bytes-length x y z))
      ∙ part_next (eight_bytes x) (eight_bytes y) (eight_bytes z) 8 8 (eight_bytes-length x) (eight_bytes-length y)

  third_part : part 16 8 (three_bytes x y z ++ rest) ≡ eight_bytes z
  third_part =
      part_left (three_bytes x y z) rest 16 8 (omega (arith, three_bytes-length x y z))
      ∙ part_right (eight_bytes x) (eight_bytes y ++ eight_bytes z) 8 (eight_bytes-length x) 8 8
      ∙ part_last (eight_bytes y) (eight_bytes z) 8 8 (eight_bytes-length y) (eight_bytes-length z)

-- Three numbers that stand before anything, and alone.
three_before : (x y z : ℕ) (rest : List ℕ) → x < 2 ^ 64 → y < 2 ^ 64 → z < 2 ^ 64 → Fields x y z (three_bytes x y z ++ rest)
three_before x y z rest hx hy hz =
    record {
      first = eight_again 0 x (three_bytes x y z ++ rest) (first_part x y z rest) hx;
      second = eight_again 8 y (three_bytes x y z ++ rest) (second_part x y z rest) hy;
      third = eight_again 16 z (three_bytes x y z ++ rest) (third_part x y z rest) hz;
    }

pub three_fields : (x y z : ℕ) → x < 2 ^ 64 → y < 2 ^ 64 → z < 2 ^ 64 → Fields x y z (three_bytes x y z)
three_fields x y z hx hy hz = subst (Fields x y z) (append-nil (three_bytes x y z)) (three_before x y z [] hx hy hz)

pub geometry_fields : (g : Geometry) → Numbers64 g → Fields g.b g.s g.p (geometry_bytes g)
geometry_fields g n = three_fields g.b g.s g.p n.b_fits n.s_fits n.p_fits

pub geometry_again : (g : Geometry) → Numbers64 g → geometry_in (geometry_bytes g) ≡ g
geometry_again g n = let f = geometry_fields g n in rw (f.first, f.second, f.third) refl

pub session_fields : (s : Session) → Fits s → SessionFields s (session_bytes s)
session_fields s f =
    let g = s.geometry in
    let n = f.geometry_fits in
    let opened = bit_of s.opened in
    let first = geometry_bytes g in
    let second = three_bytes s.k opened s.start in
    let counts = numbers_bytes s.counts in
    let last = s.keys ++ counts in
    let rest = second ++ last in
    let numbers = three_before g.b g.s g.p rest n.b_fits n.s_fits n.p_fits in
    let more = three_before s.k opened s.start last f.k_fits (bit_small s.opened) f.start_fits in
    let second-long : length second ≡ 24 = three_bytes-length s.k opened s.start in
    let behind : (x u : ℕ) → part (24 + x) u (session_bytes s) ≡ part x u rest =
    part_right first rest 24 (three_bytes-length g.b g.s g.p) in
    let place : (i : ℕ) → 528 + 8 * i ≡ 24 + (24 + (480 + 8 * i)) = λ i. omega arith in
    let count : (i : ℕ) → i < 15 → part (528 + 8 * i) 8 (session_bytes s) ≡ eight_bytes (count_of s i) =
    λ i l.
    ap (λ (a : ℕ). part a 8 (session_bytes s)) (place i)
    ∙ behind (24 + (480 + 8 * i)) 8
    ∙ part_right second last 24 second-long (480 + 8 * i) 8
    ∙ part_right s.keys counts 480 f.keys_long (8 * i) 8
    ∙ numbers_bytes_part s.counts i (omega (arith, f.counts_long, l)) in
    record {
      block_bytes_lem = numbers.first;
      slice_blocks = numbers.second;
      slices = numbers.third;
      volume = ap little_number (behind 0 8) ∙ more.first;
      is_open = ap little_number (behind 8 8) ∙ more.second;
      start_place_lem = ap little_number (behind 16 8) ∙ more.third;
      data_keys_lem = behind 24 480 ∙ part_next second s.keys counts 24 480 second-long f.keys_long;
      slice_counts = λ i l. eight_again (528 + 8 * i) (count_of s i) (session_bytes s) (count i l) (f.counts_fit i l);
    }

-- 1 is read as true and 0 as false.
bit_again : (b : Bool) → eqb (bit_of b) 1 ≡ b
bit_again true = refl
bit_again false = refl

pub session_again : (s : Session) → Fits s → session_in (session_bytes s) ≡ s
session_again s h =
    let f = session_fields s h in
    let opened = ap (λ (x : ℕ). eqb x 1) f.is_open ∙ bit_again s.opened in
    let counts = sym (numbers_at_entries 15 528 (session_bytes s) s.counts h.counts_long (λ i l. sym (f.slice_counts i l))) in
    rw (f.block_bytes_lem, f.slice_blocks, f.slices, f.volume, f.start_place_lem, f.data_keys_lem, opened, counts) refl

-- ---- putting together

-- Three numbers, each over what stood at its place.
pub overlay_three : (r : List ℕ) (at x y z : ℕ)
    → overlay (overlay (overlay r at (eight_bytes x)) (at + 8) (eight_bytes y)) (at + 16) (eight_bytes z) ≡ overlay r at (three_bytes x y z)
overlay_three r at x y z =
    let here : at + 16 ≡ at + 8 + 8 = omega arith in
    ap (λ (n : ℕ). overlay (overlay (overlay r at (eight_bytes x)) (at + 8) (eight_bytes y)) n (eight_bytes z)) here
    ∙ overlay_next (overlay r at (eight_bytes x)) (at + 8) 8 (eight_bytes y) (eight_bytes z) (eight_bytes-length y)
    ∙ overlay_next r at 8 (eight_bytes x) (eight_bytes y ++ eight_bytes z) (eight_bytes-length x)

-- One count more behind those that were put into a struct.
pub overlay_count : (r counts : List ℕ) (i : ℕ) → i < length counts
    → overlay (overlay r 528 (numbers_bytes (take i counts))) (528 + 8 * i) (eight_bytes (get_or counts i 0))
    ≡ overlay r 528 (numbers_bytes (take (i + 1) counts))
overlay_count r counts i h =
    let long : length (numbers_bytes (take i counts)) ≡ 8 * i =
    numbers_bytes-length (take i counts) ∙ ap (λ (n : ℕ). 8 * n) (length-take-le i counts (omega arith)) in
    overlay_next r 528 (8 * i) (numbers_bytes (take i counts)) (eight_bytes (get_or counts i 0)) long
    ∙ ap (overlay r 528) (numbers_bytes_turn counts i h)

-- A session over a struct of its size.
pub overlay_session : (r : List ℕ) (s : Session) → length r ≡ 648 → length s.keys ≡ 480 → length s.counts ≡ 15
    → overlay
    (overlay (overlay (overlay r 0 (geometry_bytes s.geometry)) 24 (three_bytes s.k (bit_of s.opened) s.start)) 48 s.keys) 528
    (numbers_bytes s.counts)
    ≡ session_bytes s
overlay_session r s long keys counts =
    let g = s.geometry in
    let numbers = three_bytes s.k (bit_of s.opened) s.start in
    let bytes = numbers_bytes s.counts in
    let begun = overlay r 0 (geometry_bytes g) in
    overlay_next (overlay begun 24 numbers) 48 480 s.keys bytes keys
    ∙ overlay_next begun 24 24 numbers (s.keys ++ bytes) (three_bytes-length s.k (bit_of s.opened) s.start)
    ∙ overlay_next r 0 24 (geometry_bytes g) (numbers ++ (s.keys ++ bytes)) (three_bytes-length g.b g.s g.p)
    ∙ overlay_all r (session_bytes s) (session_bytes-length s keys counts ∙ sym long)

-- Three numbers over a struct of their size.
pub overlay_three_all : (r : List ℕ) (x y z : ℕ) → length r ≡ 24 → overlay r 0 (three_bytes x y z) ≡ three_bytes x y z
overlay_three_all r x y z long = overlay_all r (three_bytes x y z) (three_bytes-length x y z ∙ sym long)

pub three_bytes-same : {x x' y y' : ℕ} → x ≡ x' → y ≡ y' → (z : ℕ) → three_bytes x y z ≡ three_bytes x' y' z
three_bytes-same e f z = ap₂ (λ (x y : ℕ). three_bytes x y z) e f

-- ---- handing back

-- A refusal other than 22 leaves the bytes.
pub handed_back-kept : (number : ℕ) → (number ≡ 0 → ⊥) → (number ≡ 22 → ⊥) → (handed kept : List ℕ) → handed_back number handed kept ≡ kept
handed_back-kept number served full handed kept = rw (ne_eqb number 0 served, ne_eqb number 22 full) refl
