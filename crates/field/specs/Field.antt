-- FIPS 197, section 4: bytes as elements of the field GF(2^8). A byte is a number below 256, bit i of it the coefficient
-- of x^i. Assumes nothing.
use Rattle.std.specs.Prelude.{ℕ, zero, suc, ◌*◌, ◌/◌, ◌%◌}
use Rattle.std.specs.Int.Bits.{bit_xor}

-- XTIMES (4.2): the byte shifted left by one bit, with 1b added where the bit shifted out is 1.
unfoldable pub xtimes : ℕ → ℕ
xtimes b = bit_xor (b / 128 * 0x1b) (b * 2 % 256)

-- b where the bit is 1, and 0 where it is 0.
abbrev pub if_bit : ℕ → ℕ → ℕ
if_bit zero b = 0
if_bit (suc n) b = b

-- The low n bits of a times b (4.2): the sum of x^i • b over each bit i of a that is 1.
unfoldable pub times_bits : ℕ → ℕ → ℕ → ℕ
times_bits zero a b = 0
times_bits (suc n) a b = bit_xor (if_bit (a % 2) b) (times_bits n (a / 2) (xtimes b))

-- The product a • b (4.2).
unfoldable pub times : ℕ → ℕ → ℕ
times a b = times_bits 8 a b

-- b to the power 2^n: squared n times.
unfoldable pub squared : ℕ → ℕ → ℕ
squared b zero = b
squared b (suc n) = times (squared b n) (squared b n)

-- The product of b squared 1 to n times: b to the power 2 + 4 + .. + 2^n.
unfoldable pub squares : ℕ → ℕ → ℕ
squares b zero = 1
squares b (suc n) = times (squared b (suc n)) (squares b n)

-- The multiplicative inverse (4.4), which is b to the power 254; that of 0 is 0.
unfoldable pub inverse : ℕ → ℕ
inverse b = squares b 7
