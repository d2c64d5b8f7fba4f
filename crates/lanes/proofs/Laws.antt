-- The loops change each lane by itself. Assumes nothing.
use mathlib.Core.Path.{◌≡◌, refl, ap, ap₂, ◌∙◌}
use mathlib.Core.Logic.{⊎_elim}
use mathlib.Core.List.{List, ◌++◌}
use Prim.Native.Nat.{ℕ, zero, suc, ◌+◌, ◌*◌, ◌%◌, ◌<◌, ◌≤◌}
use native.Mathlib.Nat.{eq-or-lt_of_le}
use native.Mathlib.Omega.{arith}
use lib.ListN.{length, drop, drop_of_length-le}
use lib.Seq.{drop-cons}
use Rattle.circuit.specs.Circuit.{sub_words}
use Rattle.packing.specs.Planes.{row_from}
use Rattle.lanes.specs.Lanes.{row_at, put_row, lane_at, put_lane, each_row, sub_rows, sub_lane, each_lane}
use Rattle.lanes.specs.Theorems.{LaneLaws}
use Rattle.lanes.proofs.Rows.{put-length, row_same, row_other}

-- Four rows that are equal make equal lanes.
four_rows : {a a' b b' c c' d d' : List ℕ} → a ≡ a' → b ≡ b' → c ≡ c' → d ≡ d' → a ++ (b ++ (c ++ d)) ≡ a' ++ (b' ++ (c' ++ d'))
four_rows p q r t = ap₂ ◌++◌ p (ap₂ ◌++◌ q (ap₂ ◌++◌ r t))

-- The words from place a on are a row, then those after it.
row_drop : (x : List ℕ) (a : ℕ) → a + 8 ≤ length x → drop a x ≡ row_from x a ++ drop (a + 8) x
row_drop x a l =
    let e₁ : suc a ≡ a + 1 = omega arith in
    let e₂ : suc (a + 1) ≡ a + 2 = omega arith in
    let e₃ : suc (a + 2) ≡ a + 3 = omega arith in
    let e₄ : suc (a + 3) ≡ a + 4 = omega arith in
    let e₅ : suc (a + 4) ≡ a + 5 = omega arith in
    let e₆ : suc (a + 5) ≡ a + 6 = omega arith in
    let e₇ : suc (a + 6) ≡ a + 7 = omega arith in
    let e₈ : suc (a + 7) ≡ a + 8 = omega arith in
    cc (
      drop-cons x a 0 (omega arith),
      drop-cons x (a + 1) 0 (omega arith),
      drop-cons x (a + 2) 0 (omega arith),
      drop-cons x (a + 3) 0 (omega arith),
      drop-cons x (a + 4) 0 (omega arith),
      drop-cons x (a + 5) 0 (omega arith),
      drop-cons x (a + 6) 0 (omega arith),
      drop-cons x (a + 7) 0 (omega arith),
    )

-- A lane is its four rows.
whole : (x : List ℕ) → length x ≡ 32 → row_from x 0 ++ (row_from x 8 ++ (row_from x 16 ++ row_from x 24)) ≡ x
whole x e =
    cc (
      row_drop x 0 (omega arith),
      row_drop x 8 (omega arith),
      row_drop x 16 (omega arith),
      row_drop x 24 (omega arith),
      drop_of_length-le x {i = 32} (omega arith),
    )

-- A lane just put.
lane_same : (s : List ℕ) (j : ℕ) (x : List ℕ) → j < 16 → length s ≡ 512 → length x ≡ 32 → lane_at (put_lane s j x) j ≡ x
unfolding lane_at put_lane
lane_same s j x l e w =
    let t₁ = put_row s j (row_from x 0) in
    let t₂ = put_row t₁ (j + 128) (row_from x 8) in
    let t₃ = put_row t₂ (j + 256) (row_from x 16) in
    four_rows
    (row_other t₃ (j + 384) j _ (λ m n p q a. omega arith) ∙ row_other t₂ (j + 256) j _ (λ m n p q a. omega arith)
    ∙ row_other t₁ (j + 128) j _ (λ m n p q a. omega arith) ∙ row_same s j _ (omega arith))
    (row_other t₃ (j + 384) (j + 128) _ (λ m n p q a. omega arith) ∙ row_other t₂ (j + 256) (j + 128) _ (λ m n p q a. omega arith)
    ∙ row_same t₁ (j + 128) _ (simp put-length (omega arith)))
    (row_other t₃ (j + 384) (j + 256) _ (λ m n p q a. omega arith) ∙ row_same t₂ (j + 256) _ (simp put-length (omega arith)))
    (row_same t₃ (j + 384) _ (simp put-length (omega arith)))
    ∙ whole x w

-- A row of another lane.
outside : (s : List ℕ) (i b : ℕ) (x : List ℕ) → i < 16 → (b % 16 ≡ i → ⊥) → row_at (put_lane s i x) b ≡ row_at s b
unfolding put_lane
outside s i b x l h =
    row_other (put_row (put_row (put_row s i _) (i + 128) _) (i + 256) _) (i + 384) b _ (λ m n p q e. omega arith)
    ∙ row_other (put_row (put_row s i _) (i + 128) _) (i + 256) b _ (λ m n p q e. omega arith)
    ∙ row_other (put_row s i _) (i + 128) b _ (λ m n p q e. omega arith) ∙ row_other s i b _ (λ m n p q e. omega arith)

-- Another lane.
lane_other : (s : List ℕ) (i j : ℕ) (x : List ℕ) → i < 16 → j < 16 → (j ≡ i → ⊥) → lane_at (put_lane s i x) j ≡ lane_at s j
unfolding lane_at
lane_other s i j x l k h =
    four_rows (outside s i j x l (λ e. omega arith)) (outside s i (j + 128) x l (λ e. omega arith))
    (outside s i (j + 256) x l (λ e. omega arith))
    (outside s i (j + 384) x l (λ e. omega arith))

-- A lane put keeps the number of words.
lane_put-length : (s : List ℕ) (j : ℕ) (x : List ℕ) → length (put_lane s j x) ≡ length s
unfolding put_lane
lane_put-length s j x = simp put-length

-- A lane is 32 words.
lane_length : (s : List ℕ) (j : ℕ) → length (lane_at s j) ≡ 32
unfolding lane_at
lane_length s j = refl

-- The loop over lanes keeps the number of words.
each_length : (f : List ℕ → List ℕ) (n : ℕ) (s : List ℕ) → length (each_lane f n s) ≡ length s
unfolding each_lane
each_length f zero s = refl
each_length f (suc n) s = lane_put-length _ n _ ∙ each_length f n s

-- A lane that the loop has not come to.
each_later : (f : List ℕ → List ℕ) (n j : ℕ) (s : List ℕ) → n ≤ j → j < 16 → lane_at (each_lane f n s) j ≡ lane_at s j
unfolding each_lane
each_later f zero j s l k = refl
each_later f (suc n) j s l k = lane_other (each_lane f n s) n j _ (omega arith) k (λ e. omega arith) ∙ each_later f n j s (omega arith) k

module _ (f : List ℕ → List ℕ) (hf : (x : List ℕ) → length x ≡ 32 → length (f x) ≡ 32) where
  -- Each lane is changed once.
  each_lane_lem : (n j : ℕ) (s : List ℕ) → n ≤ 16 → j < n → length s ≡ 512 → lane_at (each_lane f n s) j ≡ f (lane_at s j)
  unfolding each_lane
  each_lane_lem zero j s l k e = absurd (omega arith)
  each_lane_lem (suc n) j s l k e =
      let t = each_lane f n s in
      ⊎_elim
      (λ (p : j ≡ n).
      rw p
      (lane_same t n (f (lane_at t n)) (omega arith) (each_length f n s ∙ e) (hf (lane_at t n) (lane_length t n))
      ∙ ap f (each_later f n n s (omega arith) (omega arith))))
      (λ (p : j < n).
      lane_other t n j (f (lane_at t n)) (omega arith) (omega arith) (λ q. omega arith) ∙ each_lane_lem n j s (omega arith) p e)
      (eq-or-lt_of_le (omega arith))

-- A row of each lane, changed by a function that gives eight words.
module _ (f : List ℕ → List ℕ) (hf : (x : List ℕ) → row_from (f x) 0 ≡ f x) where
  -- The loop over a row keeps the number of words.
  row_length : (base n : ℕ) (s : List ℕ) → length (each_row f base n s) ≡ length s
  unfolding each_row
  row_length base zero s = refl
  row_length base (suc n) s = put-length _ (base + n) _ ∙ row_length base n s

  -- A row that the loop has not come to, or of another place.
  row_later : (r n q j : ℕ) (s : List ℕ) → n ≤ 16 → j < 16 → ((m : ℕ) → m < n → 128 * q + j ≡ 128 * r + m → ⊥)
      → row_at (each_row f (128 * r) n s) (128 * q + j) ≡ row_at s (128 * q + j)
  unfolding each_row
  row_later r zero q j s l k h = refl
  row_later r (suc n) q j s l k h =
      row_other (each_row f (128 * r) n s) (128 * r + n) (128 * q + j) _ (λ a b u v e. h n (omega arith) (omega arith))
      ∙ row_later r n q j s (omega arith) k (λ m u. h m (omega arith))

  -- Each lane's row is changed once.
  row_each : (r n j : ℕ) (s : List ℕ) → r < 4 → n ≤ 16 → j < n → length s ≡ 512
      → row_at (each_row f (128 * r) n s) (128 * r + j) ≡ f (row_at s (128 * r + j))
  unfolding each_row
  row_each r zero j s g l k e = absurd (omega arith)
  row_each r (suc n) j s g l k e =
      let t = each_row f (128 * r) n s in
      let at = 128 * r + n in
      ⊎_elim
      (λ (p : j ≡ n).
      rw p
      (row_same t at (f (row_at t at)) (rw row_length (omega arith)) ∙ hf (row_at t at)
      ∙ ap f (row_later r n r n s (omega arith) (omega arith) (λ m u q. omega arith))))
      (λ (p : j < n).
      row_other t at (128 * r + j) (f (row_at t at)) (λ a b u v q. omega arith) ∙ row_each r n j s g (omega arith) p e)
      (eq-or-lt_of_le (omega arith))

-- The circuit gives eight words.
pub sub_eight : (x : List ℕ) → row_from (sub_words x) 0 ≡ sub_words x
unfolding sub_words
sub_eight x = refl

-- SUBBYTES keeps the number of words.
rows_length : (r n : ℕ) (s : List ℕ) → length (sub_rows r n s) ≡ length s
unfolding sub_rows
rows_length zero n s = refl
rows_length (suc r) n s = row_length sub_words sub_eight (128 * r) n _ ∙ rows_length r n s

-- A row that SUBBYTES has not come to.
rows_later : (r n q j : ℕ) (s : List ℕ) → r ≤ q → n ≤ 16 → j < 16 → row_at (sub_rows r n s) (128 * q + j) ≡ row_at s (128 * q + j)
unfolding sub_rows
rows_later zero n q j s g l k = refl
rows_later (suc r) n q j s g l k =
    row_later sub_words sub_eight r n q j _ l k (λ m u e. omega arith) ∙ rows_later r n q j s (omega arith) l k

-- Each row is changed once.
rows_each : (r n q j : ℕ) (s : List ℕ) → r ≤ 4 → q < r → n ≤ 16 → j < n → length s ≡ 512
    → row_at (sub_rows r n s) (128 * q + j) ≡ sub_words (row_at s (128 * q + j))
unfolding sub_rows
rows_each zero n q j s d g l k e = absurd (omega arith)
rows_each (suc r) n q j s d g l k e =
    let t = sub_rows r n s in
    ⊎_elim
    (λ (p : q ≡ r).
    rw p
    (row_each sub_words sub_eight r n j t d l k (rows_length r n s ∙ e) ∙ ap sub_words (rows_later r n r j s (omega arith) l (omega arith))))
    (λ (p : q < r).
    row_later sub_words sub_eight r n q j t l (omega arith) (λ m u a. omega arith) ∙ rows_each r n q j s (omega arith) p l k e)
    (eq-or-lt_of_le (omega arith))

-- The same of row q of lane j at its place.
sub_row : (r n q j at : ℕ) (s : List ℕ) → at ≡ 128 * q + j → r ≤ 4 → q < r → n ≤ 16 → j < n → length s ≡ 512
    → row_at (sub_rows r n s) at ≡ sub_words (row_at s at)
sub_row r n q j at s p d g l k e = rw p (rows_each r n q j s d g l k e)

-- SUBBYTES of all rows is SUBBYTES of each lane.
sub_lane_lem : (n j : ℕ) (s : List ℕ) → n ≤ 16 → j < n → length s ≡ 512 → lane_at (sub_rows 4 n s) j ≡ sub_lane (lane_at s j)
unfolding lane_at sub_lane
sub_lane_lem n j s l k e =
    four_rows (sub_row 4 n 0 j j s (omega arith) (omega arith) (omega arith) l k e)
    (sub_row 4 n 1 j (j + 128) s (omega arith) (omega arith) (omega arith) l k e)
    (sub_row 4 n 2 j (j + 256) s (omega arith) (omega arith) (omega arith) l k e)
    (sub_row 4 n 3 j (j + 384) s (omega arith) (omega arith) (omega arith) l k e)

-- SUBBYTES of the first row of the first lane alone.
sub_first : (s : List ℕ) → length s ≡ 512 → row_at (sub_rows 1 1 s) 0 ≡ sub_words (row_at s 0)
sub_first s e = sub_row 1 1 0 0 0 s refl (omega arith) (omega arith) (omega arith) (omega arith) e

pub laws : LaneLaws
laws =
    record {
      lane_length = lane_length;
      each_length = each_length;
      rows_length = rows_length;
      each_lane_lem = each_lane_lem;
      sub_lane_lem = sub_lane_lem;
      sub_first = sub_first;
    }
