-- What is proved of packing beside the contracts. Assumes nothing.
use Rattle.std.specs.Prelude.{ℕ, ◌+◌, ◌*◌, ◌^◌, ◌<◌, ◌≡◌, List, get_or, length}
use Rattle.block.specs.Bytes.{big_endian}
use Rattle.rounds.specs.State.{state_of, bytes_of}
use Rattle.turn.specs.Turn.{turned_of}
use Rattle.packing.specs.Planes.{state_at, block_bytes, first_word, second_word}

-- The transposition takes blocks to their states in bit planes and back, and the two words of a block hold its bytes.
pub record PackingLaws : Type 0 where
  pub into : (x : List ℕ) (b : ℕ) → length x ≡ 32 → b < 16
      → state_at (turned_of x) b ≡ state_of (block_bytes (get_or x b 0) (get_or x (16 + b) 0))
  pub out : (z : List ℕ) (b : ℕ) → length z ≡ 32 → b < 16
      → block_bytes (get_or (turned_of z) b 0) (get_or (turned_of z) (16 + b) 0) ≡ bytes_of (state_at z b)
  pub packed : (hi lo : ℕ) → hi < 2 ^ 64 → lo < 2 ^ 64
      → block_bytes (first_word hi lo) (second_word hi lo) ≡ big_endian 16 (hi * 2 ^ 64 + lo)
