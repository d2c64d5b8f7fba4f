-- SP 800-38D, section 6.3: the product of two blocks of 128 bits (Algorithm 1). A block is the number of its bits, most
-- significant first, so that bit 0 of the standard is the number's highest. Assumes nothing.
use Rattle.std.specs.Prelude.{ℕ, zero, suc, ◌+◌, ◌-◌, ◌*◌, ◌/◌, ◌%◌, ◌^◌, bit_xor}

-- R: the bits 11100001, then 120 zeros.
abbrev pub R : ℕ
R = 0xE1 * 2 ^ 120

-- The first where the bit is 0, else the second.
abbrev pub pick_bit : ℕ → ℕ → ℕ → ℕ
pick_bit zero a b = a
pick_bit (suc n) a b = b

-- x_i: bit i of a block.
unfoldable pub bit : ℕ → ℕ → ℕ
bit x i = x / 2 ^ (127 - i) % 2

-- V_(i+1) from V_i: shifted right by one, and R added where the bit shifted out is 1.
unfoldable pub next : ℕ → ℕ
next v = pick_bit (v % 2) (v / 2) (bit_xor (v / 2) R)

-- Z after n steps of Algorithm 1 from step i on, from Z_i = z and V_i = v.
unfoldable pub steps : ℕ → ℕ → ℕ → ℕ → ℕ → ℕ
steps zero i x z v = z
steps (suc n) i x z v = steps n (i + 1) x (pick_bit (bit x i) z (bit_xor z v)) (next v)

-- X • Y: Z_128, from Z_0 = 0 and V_0 = Y.
unfoldable pub product : ℕ → ℕ → ℕ
product x y = steps 128 0 x 0 y
