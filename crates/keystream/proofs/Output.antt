-- Output blocks: the words of a lane where they stand, and their cipher. Assumes nothing.
use Prim.Native.Nat.{ℕ, ◌+◌, ◌*◌, ◌/◌, ◌%◌, ◌≤◌, ◌<◌}
use mathlib.Core.Path.{◌≡◌, sym, ap, ap₂, ◌∙◌}
use mathlib.Core.List.{List}
use native.Mathlib.Omega.{arith}
use lib.ListN.{length, get_or}
use Rattle.block.specs.Bytes.{big_endian}
use Rattle.aes.specs.Cipher.{cipher}
use Rattle.packing.specs.Planes.{block_bytes}
use Rattle.lanes.specs.Lanes.{lane_at}
use Rattle.lanes.proofs.Laws as lanes
use Rattle.lanes.proofs.Places.{lane_word}
use Rattle.planes.specs.Rounds.{KeyPlanes}
use Rattle.planes.proofs.Laws as planes
use Rattle.batch.specs.Batch.{encrypt_lanes}
use Rattle.batch.proofs.Laws as batch
use Rattle.keystream.specs.Blocks.{OutputBlocks}
use Rattle.keystream.specs.Words.{block_at, Counters, BlocksOut}

-- Block i of lane j.
lane_block : (s : List ℕ) (j i : ℕ) → i < 16 → block_bytes (get_or (lane_at s j) i 0) (get_or (lane_at s j) (16 + i) 0) ≡ block_at s (16 * i + j)
unfolding block_at
lane_block s j i h =
    let e : 16 * (16 + i) + j ≡ 16 * i + j + 256 = omega arith in
    ap₂ block_bytes (lane_word s j i (omega arith)) (lane_word s j (16 + i) (omega arith) ∙ ap (λ (k : ℕ). get_or s k 0) e)

-- Each block of the lanes becomes its cipher.
block_encrypted : (w k s : List ℕ) (n i j : ℕ) → KeyPlanes w k → length s ≡ 512 → n ≤ 16 → i < 16 → j < n
    → block_at (encrypt_lanes k n s) (16 * i + j) ≡ cipher w (block_at s (16 * i + j))
block_encrypted w k s n i j keys e h p q =
    sym (lane_block (encrypt_lanes k n s) j i p)
    ∙ ap (λ (x : List ℕ). block_bytes (get_or x i 0) (get_or x (16 + i) 0)) ((batch.laws).lane k n j s h q e)
    ∙ (planes.laws).encrypted w k (lane_at s j) i keys ((lanes.laws).lane_length s j) p
    ∙ ap (cipher w) (lane_block s j i p)

-- The bytes that are written are those of the output blocks.
pub output : (k s s' buf : List ℕ) (x n : ℕ) → n ≤ 16 → Counters x n 256 s → s' ≡ encrypt_lanes k n s
    → BlocksOut s' (256 * n) buf → OutputBlocks k x n buf
output k s s' buf x n h c e o =
    record {
      byte = λ w keys t b.
          let i : ℕ = t / 16 % 16 in
          let j : ℕ = t / 256 in
          let d : (16 * i + j) / 16 ≡ i = omega arith in
          let m : (16 * i + j) % 16 ≡ j = omega arith in
          let y : 16 * ((16 * i + j) % 16) + (16 * i + j) / 16 ≡ t / 16 = rw (d, m) (omega arith) in
          o.byte t b
          ∙ ap (λ (z : List ℕ). get_or z (t % 16) 0)
          (ap (λ (z : List ℕ). block_at z (16 * i + j)) e
          ∙ block_encrypted w k s n i j keys c.words h (omega arith) (omega arith)
          ∙ ap (cipher w) (c.block (16 * i + j) (omega arith) (rw m (omega arith)) ∙ ap (λ (z : ℕ). big_endian 16 (x + z)) y));
    }
