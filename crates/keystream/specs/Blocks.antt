-- Output blocks of counter mode (SP 800-38A, section 6.5), 16 for each lane. Assumes nothing.
use Rattle.std.specs.Prelude.{ℕ, ◌+◌, ◌*◌, ◌/◌, ◌%◌, ◌<◌, ◌≡◌, List, get_or}
use Rattle.block.specs.Bytes.{big_endian}
use Rattle.aes.specs.Cipher.{cipher}
use Rattle.planes.specs.Rounds.{KeyPlanes}

-- The first 256 × n bytes of buf are the output blocks of the counter blocks with the numbers from x on, under any schedule whose round
-- keys the lane k has on bit planes.
pub record OutputBlocks (k : List ℕ) (x n : ℕ) (buf : List ℕ) : Type 0 where
  pub byte : (w : List ℕ) → KeyPlanes w k → (t : ℕ) → t < 256 * n
      → get_or buf t 0 ≡ get_or (cipher w (big_endian 16 (x + t / 16))) (t % 16) 0
