-- A row that is put into a list of lanes is there, and every other row is as it was. Assumes nothing.
use mathlib.Core.Path.{◌≡◌}
use mathlib.Core.Bool.{true}
use mathlib.Core.List.{List}
use Prim.Native.Nat.{ℕ, ◌+◌, ◌*◌, ◌<◌}
use native.Mathlib.Omega.{arith}
use lib.Dec.{ltb}
use lib.ListN.{get_or, set, length, length-set}
use lib.Seq.{get_or-set_same, get_or-set_other}
use borrow.Author.Tests.{ltb-true}
use Rattle.packing.specs.Planes.{row_from}
use Rattle.lanes.specs.Lanes.{row_at, put_row}

-- The rows at a and b have no word in common.
abbrev pub Apart : ℕ → ℕ → Type 0
Apart a b = (m n : ℕ) → m < 8 → n < 8 → b + 16 * m ≡ a + 16 * n → ⊥

-- A row put keeps the number of words.
pub put-length : (s : List ℕ) (a : ℕ) (x : List ℕ) → length (put_row s a x) ≡ length s
unfolding put_row
put-length s a x = simp length-set

-- A store further on changes nothing at a place before.
before : (l : List ℕ) (a m n v : ℕ) → ltb m n ≡ true → get_or (set l (a + n) v) (a + m) 0 ≡ get_or l (a + m) 0
before l a m n v t = get_or-set_other l (a + n) (a + m) v 0 (λ e. omega (arith, ltb-true m n t))

-- And nothing at the first place.
before-first : (l : List ℕ) (a n v : ℕ) → ltb 0 n ≡ true → get_or (set l (a + n) v) a 0 ≡ get_or l a 0
before-first l a n v t = get_or-set_other l (a + n) a v 0 (λ e. omega (arith, ltb-true 0 n t))

-- A store at its place.
same : (k : ℕ) (l : List ℕ) (i v : ℕ) → length l ≡ k → i < k → get_or (set l i v) i 0 ≡ v
same k l i v e h = get_or-set_same l i v 0 (rw e h)

-- The row just put.
pub row_same : (s : List ℕ) (a : ℕ) (x : List ℕ) → a + 112 < length s → row_at (put_row s a x) a ≡ row_from x 0
unfolding put_row
row_same s a x l =
    let h₀ : a < length s = omega arith in
    let h₁ : a + 16 < length s = omega arith in
    let h₂ : a + 32 < length s = omega arith in
    let h₃ : a + 48 < length s = omega arith in
    let h₄ : a + 64 < length s = omega arith in
    let h₅ : a + 80 < length s = omega arith in
    let h₆ : a + 96 < length s = omega arith in
    simp (same (length s), before, before-first, length-set)

-- A word outside the row that was put.
word_other : (s : List ℕ) (a c : ℕ) (x : List ℕ) → ((n : ℕ) → n < 8 → c ≡ a + 16 * n → ⊥) → get_or (put_row s a x) c 0 ≡ get_or s c 0
unfolding put_row
word_other s a c x h =
    let h₀ : c ≡ a → ⊥ = λ e. h 0 (omega arith) (omega arith) in
    let h₁ : c ≡ a + 16 → ⊥ = h 1 (omega arith) in
    let h₂ : c ≡ a + 32 → ⊥ = h 2 (omega arith) in
    let h₃ : c ≡ a + 48 → ⊥ = h 3 (omega arith) in
    let h₄ : c ≡ a + 64 → ⊥ = h 4 (omega arith) in
    let h₅ : c ≡ a + 80 → ⊥ = h 5 (omega arith) in
    let h₆ : c ≡ a + 96 → ⊥ = h 6 (omega arith) in
    let h₇ : c ≡ a + 112 → ⊥ = h 7 (omega arith) in
    simp get_or-set_other

-- Any other row.
pub row_other : (s : List ℕ) (a b : ℕ) (x : List ℕ) → Apart a b → row_at (put_row s a x) b ≡ row_at s b
row_other s a b x h =
    cc (
      word_other s a b x (λ n l e. h 0 n (omega arith) l (omega arith)),
      word_other s a (b + 16) x (λ n. h 1 n (omega arith)),
      word_other s a (b + 32) x (λ n. h 2 n (omega arith)),
      word_other s a (b + 48) x (λ n. h 3 n (omega arith)),
      word_other s a (b + 64) x (λ n. h 4 n (omega arith)),
      word_other s a (b + 80) x (λ n. h 5 n (omega arith)),
      word_other s a (b + 96) x (λ n. h 6 n (omega arith)),
      word_other s a (b + 112) x (λ n. h 7 n (omega arith)),
    )
