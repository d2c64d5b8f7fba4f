-- The state of a block in bit planes, and the two words that hold a block before and after the transposition: 16 blocks lie in
-- 32 words, block b in words b and 16 + b. Assumes nothing.
use Rattle.std.specs.Prelude.{ℕ, ◌+◌, ◌-◌, ◌*◌, ◌/◌, ◌%◌, ◌^◌, List, [], ◌∷◌, get_or}
use Rattle.rounds.specs.State.{four}
use Rattle.circuit.specs.Bits.{bits_of, byte_of}

-- The eight words of a list from place at on.
abbrev pub row_from : List ℕ → ℕ → List ℕ
row_from x at =
    get_or x at 0 ∷ get_or x (at + 1) 0 ∷ get_or x (at + 2) 0 ∷ get_or x (at + 3) 0 ∷ get_or x (at + 4) 0 ∷ get_or x (at + 5) 0
    ∷ get_or x (at + 6) 0 ∷ get_or x (at + 7) 0 ∷ []

-- The state of block b of a lane: row r is the eight words from 8 × (3 − r) on, and column c their bits 16 × c + b.
unfoldable pub state_at : List ℕ → ℕ → List (List ℕ)
state_at x b = four (λ c. four (λ r. byte_of (bits_of (16 * c + b) (row_from x (8 * (3 - r))))))

-- The 16 bytes of the block that two words hold: columns 0 and 2 in the halves of the first, the low half first, and columns 1
-- and 3 in those of the second, each with its most significant byte first.
unfoldable pub block_bytes : ℕ → ℕ → List ℕ
block_bytes p q =
    p / 2 ^ 24 % 256 ∷ p / 2 ^ 16 % 256 ∷ p / 2 ^ 8 % 256 ∷ p % 256
    ∷ q / 2 ^ 24 % 256 ∷ q / 2 ^ 16 % 256 ∷ q / 2 ^ 8 % 256 ∷ q % 256
    ∷ p / 2 ^ 56 % 256 ∷ p / 2 ^ 48 % 256 ∷ p / 2 ^ 40 % 256 ∷ p / 2 ^ 32 % 256
    ∷ q / 2 ^ 56 % 256 ∷ q / 2 ^ 48 % 256 ∷ q / 2 ^ 40 % 256 ∷ q / 2 ^ 32 % 256
    ∷ []

-- The word of columns 0 and 2 of the block whose halves are hi and lo.
unfoldable pub first_word : ℕ → ℕ → ℕ
first_word hi lo = hi / 2 ^ 32 + lo / 2 ^ 32 * 2 ^ 32

-- The word of columns 1 and 3 of the block whose halves are hi and lo.
unfoldable pub second_word : ℕ → ℕ → ℕ
second_word hi lo = hi % 2 ^ 32 + lo % 2 ^ 32 * 2 ^ 32
