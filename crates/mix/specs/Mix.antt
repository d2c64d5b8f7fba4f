-- A row of MIXCOLUMNS (FIPS 197, section 5.1.3) on bytes that lie across eight words, word b holding bit b of every byte.
-- Assumes nothing.
use Rattle.std.specs.Prelude.{ℕ, List, [], ◌∷◌, get_or}
use Rattle.std.specs.Int.Bits.{bit_xor}

-- The sum of two rows, word by word.
unfoldable pub sum_words : List ℕ → List ℕ → List ℕ
sum_words a b =
    bit_xor (get_or a 0 0) (get_or b 0 0) ∷ bit_xor (get_or a 1 0) (get_or b 1 0) ∷ bit_xor (get_or a 2 0) (get_or b 2 0)
    ∷ bit_xor (get_or a 3 0) (get_or b 3 0) ∷ bit_xor (get_or a 4 0) (get_or b 4 0) ∷ bit_xor (get_or a 5 0) (get_or b 5 0)
    ∷ bit_xor (get_or a 6 0) (get_or b 6 0) ∷ bit_xor (get_or a 7 0) (get_or b 7 0) ∷ []

-- 02 • each byte: every bit goes up by one, and the highest is added to bits 0, 1, 3 and 4, which are those of 1b.
unfoldable pub doubled_words : List ℕ → List ℕ
doubled_words x =
    get_or x 7 0 ∷ bit_xor (get_or x 0 0) (get_or x 7 0) ∷ get_or x 1 0 ∷ bit_xor (get_or x 2 0) (get_or x 7 0)
    ∷ bit_xor (get_or x 3 0) (get_or x 7 0) ∷ get_or x 4 0 ∷ get_or x 5 0 ∷ get_or x 6 0 ∷ []

-- A row from the rows of its column, its own first: 02 • (a + b) + b + (c + d).
unfoldable pub mix_words : List ℕ → List ℕ → List ℕ → List ℕ → List ℕ
mix_words a b c d = sum_words (sum_words (doubled_words (sum_words a b)) b) (sum_words c d)
