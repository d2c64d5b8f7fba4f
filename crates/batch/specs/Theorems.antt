-- What is proved of the cipher on n lanes: each lane by itself is the cipher on a lane. Assumes nothing.
use Rattle.std.specs.Prelude.{ℕ, ◌<◌, ◌≤◌, ◌≡◌, List, length}
use Rattle.lanes.specs.Lanes.{lane_at}
use Rattle.planes.specs.Rounds.{encrypt_lane}
use Rattle.batch.specs.Batch.{encrypt_lanes}

pub record BatchLaws : Type 0 where
  pub lane : (k : List ℕ) (n j : ℕ) (s : List ℕ) → n ≤ 16 → j < n → length s ≡ 512
      → lane_at (encrypt_lanes k n s) j ≡ encrypt_lane k (lane_at s j)
  pub lanes_length : (k : List ℕ) (n : ℕ) (s : List ℕ) → length (encrypt_lanes k n s) ≡ length s
