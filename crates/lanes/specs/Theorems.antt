-- What is proved of the loops over lanes: each lane is changed by itself. Assumes nothing.
use Rattle.std.specs.Prelude.{ℕ, ◌<◌, ◌≤◌, ◌≡◌, List, length}
use Rattle.circuit.specs.Circuit.{sub_words}
use Rattle.lanes.specs.Lanes.{row_at, lane_at, sub_rows, sub_lane, each_lane}

pub record LaneLaws : Type 0 where
  -- A lane is 32 words, and the loops keep the number of words.
  pub lane_length : (s : List ℕ) (j : ℕ) → length (lane_at s j) ≡ 32
  pub each_length : (f : List ℕ → List ℕ) (n : ℕ) (s : List ℕ) → length (each_lane f n s) ≡ length s
  pub rows_length : (r n : ℕ) (s : List ℕ) → length (sub_rows r n s) ≡ length s
  -- Each lane is changed once, from what it was.
  pub each_lane_lem : (f : List ℕ → List ℕ) → ((x : List ℕ) → length x ≡ 32 → length (f x) ≡ 32)
      → (n j : ℕ) (s : List ℕ) → n ≤ 16 → j < n → length s ≡ 512 → lane_at (each_lane f n s) j ≡ f (lane_at s j)
  -- SUBBYTES row by row is SUBBYTES of each lane, and of the first row of the first lane alone.
  pub sub_lane_lem : (n j : ℕ) (s : List ℕ) → n ≤ 16 → j < n → length s ≡ 512 → lane_at (sub_rows 4 n s) j ≡ sub_lane (lane_at s j)
  pub sub_first : (s : List ℕ) → length s ≡ 512 → row_at (sub_rows 1 1 s) 0 ≡ sub_words (row_at s 0)
