-- The facts behind the refusals, in the words of document 01 ("Refused for ..") and document 02 (P2, the start place; P4, the counts; P6,
-- the draws of a shuffle; P7, the map block of an entry). Assumes nothing.
use Rattle.std.specs.Prelude.{ℕ, suc, ◌+◌, ◌-◌, ◌*◌, ◌/◌, ◌%◌, ◌≤◌, ◌<◌, ◌≡◌, ◌⊎◌, true, List, [], ◌∷◌, length, get_or}
use Rattle.model.specs.declared.Geometry.{Geometry}
use Rattle.model.specs.declared.Session.{Session}
use Rattle.model.specs.Parts.{part}
use Rattle.model.specs.Geometry.{Allowed, count_in, per_block}
use Rattle.model.specs.Session.{count_of, entry, unmapped}

-- N is 1 to P, and so is each of the first n counts (8, 20, at formatting 1; document 02, P4).
abbrev pub CountFits : (p n : ℕ) → Type 0
CountFits p n = (1 ≤ n) × (n ≤ p)

abbrev pub CountsFit : (p : ℕ) → (counts : List ℕ) → (n : ℕ) → Type 0
CountsFit p counts n = (i : ℕ) → i < n → CountFits p (count_in counts i)

-- One count for each of n volumes, each 1 to P (1 at formatting; document 02, P4).
abbrev pub Counted : (p n : ℕ) → (counts : List ℕ) → Type 0
Counted p n counts = (length counts ≡ n) × CountsFit p counts n

-- A session that is open, with a geometry, a k, a start place and an N of each volume 0 to k that are allowed (20; document 02, P2 and
-- P4).
pub record Usable (s : Session) : Type 0 where
  pub opened : s.opened ≡ true
  pub allowed : Allowed s.geometry
  pub top : s.k ≤ 14
  pub place : s.start ≤ s.geometry.p
  pub counted : CountsFit s.geometry.p s.counts (s.k + 1)

-- The tables have their lengths (4).
abbrev pub TablesFit : Geometry → (maps owners : ℕ) → Type 0
TablesFit g maps owners = (maps ≡ 15 * g.p) × (owners ≡ g.p)

-- An entry is the mark or a slice (9).
abbrev pub EntryFits : Geometry → ℕ → Type 0
EntryFits g x = (x ≡ unmapped) ⊎ (x < g.p)

-- Index n of the map table, which is logical slice n % P of volume n / P, stands below the volume's N (9 at opening; document 02, P4).
abbrev pub BelowCount : (p : ℕ) → (counts : List ℕ) → (n : ℕ) → Type 0
BelowCount p counts n = n % p < count_in counts (n / p)

-- Every entry that stands in one map block with that of logical slice σ of volume i is the mark, or a slice that stands below N (9 of a
-- claim and of a release; document 02, P7).
abbrev pub BlockFits : (maps : List ℕ) → Session → (i σ : ℕ) → Type 0
BlockFits maps s i σ =
    (τ : ℕ) → τ < s.geometry.p → τ / per_block s.geometry ≡ σ / per_block s.geometry
    → (entry maps s.geometry i τ ≡ unmapped) ⊎ ((entry maps s.geometry i τ < s.geometry.p) × (τ < count_of s i))

-- A tape has n bytes from a position on (21).
abbrev pub Enough : (tape position n : ℕ) → Type 0
Enough tape position n = position + n ≤ tape

-- ---- permutations

-- The slice at a place of a permutation.
abbrev pub slice_at : List ℕ → ℕ → ℕ
slice_at perm n = get_or perm n 0

-- Each of the places from a start up to n, that one not included, names a slice, and it is held.
abbrev pub AllHeld : (owners : List ℕ) → (p : ℕ) → (perm : List ℕ) → (start n : ℕ) → Type 0
AllHeld owners p perm start n = (m : ℕ) → start ≤ m → m < n → (slice_at perm m < p) × (get_or owners (slice_at perm m) 0 ≡ 0 → ⊥)

-- Place n is the first from a start on whose slice is free.
pub record FirstFree (owners : List ℕ) (p : ℕ) (perm : List ℕ) (start n : ℕ) : Type 0 where
  pub from : start ≤ n
  pub inside : n < length perm
  pub slice : slice_at perm n < p
  pub free : get_or owners (slice_at perm n) 0 ≡ 0
  pub before : AllHeld owners p perm start n

-- Place n names no slice, and every place from a start up to it names a held one.
pub record FirstBad (owners : List ℕ) (p : ℕ) (perm : List ℕ) (start n : ℕ) : Type 0 where
  pub from : start ≤ n
  pub inside : n < length perm
  pub bad : p ≤ slice_at perm n
  pub before : AllHeld owners p perm start n

-- A permutation of P places that names each slice (5).
pub record Names (p : ℕ) (perm : List ℕ) : Type 0 where
  pub places : length perm ≡ p
  pub each : (ψ : ℕ) → ψ < p → (n : ℕ) × (n < length perm) × (slice_at perm n ≡ ψ)

-- ---- shuffles (document 02, P6)

-- ys is xs with places i and j exchanged.
pub record Exchanged (i j : ℕ) (xs ys : List ℕ) : Type 0 where
  pub places : length ys ≡ length xs
  pub one : slice_at ys i ≡ slice_at xs j
  pub other : slice_at ys j ≡ slice_at xs i
  pub rest : (n : ℕ) → (n ≡ i → ⊥) → (n ≡ j → ⊥) → slice_at ys n ≡ slice_at xs n

-- zs is xs after each place from i down to 1 was exchanged with a place from 0 to itself: the remainder of the place's draw by its
-- number of choices, which is one more than the place.
pub data Exchanges : (i : ℕ) → (draws xs zs : List ℕ) → Type 0 where
  done : (xs : List ℕ) → Exchanges 0 [] xs xs
  next : (i d : ℕ) (ds xs ys zs : List ℕ) → Exchanged (suc i) (d % suc (suc i)) xs ys → Exchanges i ds ys zs
      → Exchanges (suc i) (d ∷ ds) xs zs

-- perm is the ordering that a draw for each place from the last down to 1 makes of the slices 0 to P - 1.
pub record Shuffles (p : ℕ) (draws perm : List ℕ) : Type 0 where
  pub start : List ℕ
  pub places : length start ≡ p
  pub each : (n : ℕ) → n < p → slice_at start n ≡ n
  pub exchanges : Exchanges (p - 1) draws start perm

-- With n choices a draw is accepted where it is below a multiple of n not above 65,536, and so below the largest.
abbrev pub Accepts : (n d : ℕ) → Type 0
Accepts n d = (m : ℕ) × (d < m * n) × (m * n ≤ 65536)

-- The bytes are draws for the places from i down to 1, two bytes each, most significant first: for each place any number of draws
-- that are thrown away, then the one that is accepted.
pub data Drawing : (i : ℕ) → (bytes accepted : List ℕ) → Type 0 where
  done : Drawing 0 [] []
  thrown : (i a b : ℕ) (bytes ds : List ℕ) → (Accepts (suc (suc i)) (256 * a + b) → ⊥) → Drawing (suc i) bytes ds
      → Drawing (suc i) (a ∷ b ∷ bytes) ds
  taken : (i a b : ℕ) (bytes ds : List ℕ) → Accepts (suc (suc i)) (256 * a + b) → Drawing i bytes ds
      → Drawing (suc i) (a ∷ b ∷ bytes) ((256 * a + b) ∷ ds)

-- The n bytes of a tape from a position on are such draws (21).
pub record DrawnFrom (tape : List ℕ) (position i : ℕ) (accepted : List ℕ) (n : ℕ) : Type 0 where
  pub inside : position + n ≤ length tape
  pub bytes : Drawing i (part position n tape) accepted

-- A tape does not end before the draws for the places from i down to 1 do.
abbrev pub EnoughDraws : (tape : List ℕ) → (position i : ℕ) → Type 0
EnoughDraws tape position i = (accepted : List ℕ) × (n : ℕ) × DrawnFrom tape position i accepted n
