-- What the loops of the keystream leave: counter blocks as words, and the bytes of output blocks. Assumes nothing.
use Rattle.std.specs.Prelude.{ℕ, zero, suc, ◌+◌, ◌*◌, ◌/◌, ◌%◌, ◌<◌, ◌≡◌, List, length, get_or, set}
use Rattle.block.specs.Bytes.{big_endian}
use Rattle.packing.specs.Planes.{block_bytes}

-- The bytes of the block that stands in words at and at + 256: block at / 16 of lane at % 16.
unfoldable pub block_at : List ℕ → ℕ → List ℕ
block_at s at = block_bytes (get_or s at 0) (get_or s (at + 256) 0)

-- s' is s with the block with the number x at place at, as far as that place.
pub record CounterPut (s : List ℕ) (at x : ℕ) (s' : List ℕ) : Type 0 where
  pub words : length s' ≡ length s
  pub here : block_at s' at ≡ big_endian 16 x
  pub before : (i : ℕ) → i < at → block_at s' i ≡ block_at s i

-- Below place m of s stand counter blocks: block i of lane j, for the lanes below n, has the number x + 16 × j + i.
pub record Counters (x n m : ℕ) (s : List ℕ) : Type 0 where
  pub words : length s ≡ 512
  pub block : (at : ℕ) → at < m → at % 16 < n → block_at s at ≡ big_endian 16 (x + (16 * (at % 16) + at / 16))

-- The first k bytes of b put into buf from place at on.
unfoldable pub put_bytes : List ℕ → ℕ → List ℕ → ℕ → List ℕ
put_bytes buf at b zero = buf
put_bytes buf at b (suc k) = set (put_bytes buf at b k) (at + k) (get_or b k 0)

-- The first m bytes of buf are those of the blocks in s, the 16 blocks of lane 0 first.
pub record BlocksOut (s : List ℕ) (m : ℕ) (buf : List ℕ) : Type 0 where
  pub bytes : length buf ≡ 4104
  pub byte : (t : ℕ) → t < m → get_or buf t 0 ≡ get_or (block_at s (16 * (t / 16 % 16) + t / 256)) (t % 16) 0
