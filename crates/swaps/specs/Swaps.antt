-- Delta swaps of two words by h places under a mask, and rotations of a word, as code computes them on words of 64 bits.
-- Assumes nothing.
use Rattle.std.specs.Prelude.{ℕ, ◌+◌, ◌-◌, ◌*◌, ◌/◌, ◌%◌, ◌^◌, ◌<◌, ◌≤◌, ◌≡◌}
use Rattle.std.specs.Int.Bits.{bit_xor, bit_and, bit_or}
use Rattle.circuit.specs.Bits.{bit_of}

-- The bits of b under the mask m that differ from the bits h places higher in a.
unfoldable pub delta : ℕ → ℕ → ℕ → ℕ → ℕ
delta h m a b = bit_and (bit_xor (a / 2 ^ h) b) m

-- The word b after the swap.
unfoldable pub swap_b : ℕ → ℕ → ℕ → ℕ → ℕ
swap_b h m a b = bit_xor b (delta h m a b)

-- The word a after the swap.
unfoldable pub swap_a : ℕ → ℕ → ℕ → ℕ → ℕ
swap_a h m a b = bit_xor a (delta h m a b * 2 ^ h % 2 ^ 64)

-- x turned right by k places.
unfoldable pub right : ℕ → ℕ → ℕ
right k x = bit_or (x % 2 ^ 64 / 2 ^ k) (x * 2 ^ (64 - k) % 2 ^ 64)

-- What a swap and a rotation do to each bit.
pub record SwapLaws : Type 0 where
  -- Where the mask has a 1 at i, bit i of b and bit h + i of a change place; all else stays.
  pub b_moved : (h m a b i : ℕ) → bit_of i m ≡ 1 → bit_of i (swap_b h m a b) ≡ bit_of (h + i) a
  pub b_stays : (h m a b i : ℕ) → bit_of i m ≡ 0 → bit_of i (swap_b h m a b) ≡ bit_of i b
  pub a_moved : (h m a b i : ℕ) → h + i < 64 → bit_of i m ≡ 1 → bit_of (h + i) (swap_a h m a b) ≡ bit_of i b
  pub a_stays : (h m a b i : ℕ) → h + i < 64 → bit_of i m ≡ 0 → bit_of (h + i) (swap_a h m a b) ≡ bit_of (h + i) a
  pub a_low : (h m a b i : ℕ) → i < h → h ≤ 64 → bit_of i (swap_a h m a b) ≡ bit_of i a
  -- Bit i of a word that was turned is the bit k places higher, around the end.
  pub turned : (k x i : ℕ) → k ≤ 64 → i < 64 → bit_of i (right k x) ≡ bit_of ((i + k) % 64) x
