-- FIPS 197, section 5.1.1: the S-box. Assumes nothing.
use Rattle.std.specs.Prelude.{ℕ, ◌+◌, ◌*◌, ◌/◌, ◌%◌, ◌^◌, ◌<◌, ◌≡◌, List, get_or}
use Rattle.field.specs.Field.{inverse}

-- Bit i of a byte, bit 0 the lowest.
unfoldable pub bit : ℕ → ℕ → ℕ
bit b i = b / 2 ^ i % 2

-- Bit i of the affine map: b_i + b_(i+4) + b_(i+5) + b_(i+6) + b_(i+7) + c_i, places modulo 8, c being 63.
unfoldable pub affine_bit : ℕ → ℕ → ℕ
affine_bit b i =
    (bit b i + bit b ((i + 4) % 8) + bit b ((i + 5) % 8) + bit b ((i + 6) % 8) + bit b ((i + 7) % 8) + bit 0x63 i) % 2

-- The affine map of a byte.
unfoldable pub affine : ℕ → ℕ
affine b =
    affine_bit b 0 + affine_bit b 1 * 2 + affine_bit b 2 * 4 + affine_bit b 3 * 8 + affine_bit b 4 * 16 + affine_bit b 5 * 32
    + affine_bit b 6 * 64 + affine_bit b 7 * 128

-- SBOX: the inverse, then the affine map.
unfoldable pub sbox : ℕ → ℕ
sbox b = affine (inverse b)

-- A table that holds SBOX at every byte.
pub record IsSbox (t : List ℕ) : Type 0 where
  pub at : (x : ℕ) → x < 256 → get_or t x 0 ≡ sbox x
