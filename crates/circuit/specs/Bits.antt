-- Bytes that lie across words: bit b of every byte in word b, so that the bytes of eight words are as many as a word has bits.
-- Assumes nothing.
use Rattle.std.specs.Prelude.{ℕ, ◌+◌, ◌*◌, ◌/◌, ◌%◌, ◌^◌, List, [], ◌∷◌, get_or}

-- Bit i of a word.
unfoldable pub bit_of : ℕ → ℕ → ℕ
bit_of i w = w / 2 ^ i % 2

-- Bit i of each word of a list.
abbrev pub bits_of : ℕ → List ℕ → List ℕ
bits_of i [] = []
bits_of i (w ∷ e) = bit_of i w ∷ bits_of i e

-- The byte of eight bits, the lowest first.
unfoldable pub byte_of : List ℕ → ℕ
byte_of b =
    get_or b 0 0 + get_or b 1 0 * 2 + get_or b 2 0 * 4 + get_or b 3 0 * 8 + get_or b 4 0 * 16 + get_or b 5 0 * 32 + get_or b 6 0 * 64
    + get_or b 7 0 * 128
