-- What is proved of the cipher on a lane: under the round keys on bit planes each block becomes its cipher. Assumes nothing.
use Rattle.std.specs.Prelude.{ℕ, ◌+◌, ◌<◌, ◌≡◌, List, length, get_or}
use Rattle.aes.specs.Cipher.{cipher}
use Rattle.packing.specs.Planes.{block_bytes}
use Rattle.planes.specs.Rounds.{encrypt_lane, KeyPlanes}

pub record PlaneLaws : Type 0 where
  pub encrypted : (w k x : List ℕ) (b : ℕ) → KeyPlanes w k → length x ≡ 32 → b < 16
      → block_bytes (get_or (encrypt_lane k x) b 0) (get_or (encrypt_lane k x) (16 + b) 0) ≡ cipher w (block_bytes (get_or x b 0) (get_or x (16 + b) 0))
  pub encrypt_length : (k x : List ℕ) → length (encrypt_lane k x) ≡ 32
