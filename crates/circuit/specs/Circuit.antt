-- The S-box as a circuit on eight words: 115 gates, 83 of them sums and 32 products of bits, then the constant 63. The formulas are
-- those of Joan Boyar and René Peralta, "A new combinational logic minimization technique with applications to cryptology"
-- (SEA 2010; an earlier form is IACR ePrint 2009/191). Assumes nothing.
use Rattle.std.specs.Prelude.{ℕ, List, [], ◌∷◌, get_or}
use Rattle.std.specs.Int.Bits.{bit_xor, bit_and}

-- A gate: its operands are places in the list of words so far, the newest first.
pub data Gate : Type 0 where
  xor : ℕ → ℕ → Gate
  and : ℕ → ℕ → Gate

-- The word of one gate.
abbrev pub word : Gate → List ℕ → ℕ
word (xor a b) e = bit_xor (get_or e a 0) (get_or e b 0)
word (and a b) e = bit_and (get_or e a 0) (get_or e b 0)

-- The words of all gates, the newest first, then those given.
abbrev pub run : List Gate → List ℕ → List ℕ
run [] e = e
run (g ∷ gs) e = run gs (word g e ∷ e)

-- The eight words that the gates start from: the last is the newest.
abbrev pub inputs : List ℕ → List ℕ
inputs x =
    get_or x 7 0 ∷ get_or x 6 0 ∷ get_or x 5 0 ∷ get_or x 4 0 ∷ get_or x 3 0 ∷ get_or x 2 0 ∷ get_or x 1 0 ∷ get_or x 0 0 ∷ []

-- The constant 63, added to eight words: the word of ones to those of bits 0, 1, 5 and 6.
abbrev pub constant : ℕ → List ℕ → List ℕ
constant ones y =
    bit_xor (get_or y 0 0) ones ∷ bit_xor (get_or y 1 0) ones ∷ get_or y 2 0 ∷ get_or y 3 0 ∷ get_or y 4 0
    ∷ bit_xor (get_or y 5 0) ones ∷ bit_xor (get_or y 6 0) ones ∷ get_or y 7 0 ∷ []

-- `tools/circuit` writes the two definitions that follow, from the code of `sub8`.

-- The 115 gates.
abbrev pub gates : List Gate
gates =
    xor 3 5 ∷ xor 1 7 ∷ xor 2 5 ∷ xor 3 8 ∷ xor 5 6 ∷ xor 0 12 ∷ xor 0 9 ∷ xor 5 6
    ∷ xor 2 8 ∷ xor 3 15 ∷ xor 0 6 ∷ xor 15 3 ∷ xor 0 17 ∷ xor 1 14 ∷ xor 1 21 ∷ xor 2 10
    ∷ xor 2 13 ∷ xor 24 0 ∷ xor 2 1 ∷ xor 3 15 ∷ xor 15 3 ∷ xor 19 0 ∷ xor 22 1 ∷ and 15 10
    ∷ and 13 9 ∷ xor 0 1 ∷ and 19 33 ∷ xor 0 3 ∷ and 26 7 ∷ and 19 23 ∷ xor 0 1 ∷ and 22 13
    ∷ xor 0 3 ∷ and 30 16 ∷ and 33 15 ∷ xor 0 1 ∷ and 32 20 ∷ xor 0 3 ∷ xor 12 2 ∷ xor 11 1
    ∷ xor 9 4 ∷ xor 8 3 ∷ xor 3 28 ∷ xor 3 23 ∷ xor 3 22 ∷ xor 3 22 ∷ xor 3 2 ∷ and 4 2
    ∷ xor 2 0 ∷ and 2 0 ∷ xor 0 6 ∷ xor 6 5 ∷ xor 8 4 ∷ and 0 1 ∷ xor 0 8 ∷ xor 10 0
    ∷ xor 7 1 ∷ and 11 0 ∷ xor 0 2 ∷ xor 10 1 ∷ and 9 0 ∷ xor 14 0 ∷ xor 0 3 ∷ xor 12 8
    ∷ xor 13 2 ∷ xor 10 6 ∷ xor 2 3 ∷ and 1 54 ∷ and 9 53 ∷ and 14 76 ∷ and 5 49 ∷ and 9 65
    ∷ and 21 54 ∷ and 9 56 ∷ and 7 55 ∷ and 12 59 ∷ and 10 68 ∷ and 18 66 ∷ and 23 71 ∷ and 14 77
    ∷ and 18 70 ∷ and 30 72 ∷ and 18 79 ∷ and 16 82 ∷ and 21 80 ∷ xor 2 1 ∷ xor 8 7 ∷ xor 14 6
    ∷ xor 11 10 ∷ xor 19 9 ∷ xor 20 17 ∷ xor 16 15 ∷ xor 24 21 ∷ xor 19 18 ∷ xor 10 9 ∷ xor 15 7
    ∷ xor 6 3 ∷ xor 25 11 ∷ xor 27 4 ∷ xor 13 2 ∷ xor 18 3 ∷ xor 9 3 ∷ xor 13 4 ∷ xor 31 4
    ∷ xor 3 2 ∷ xor 36 2 ∷ xor 7 3 ∷ xor 11 5 ∷ xor 20 8 ∷ xor 5 4 ∷ xor 17 4 ∷ xor 20 5
    ∷ xor 25 7 ∷ xor 9 2 ∷ xor 19 4
    ∷ []

-- The words of the eight results, bit 0 first.
abbrev pub picked : List ℕ → List ℕ
picked e =
    get_or e 6 0 ∷ get_or e 7 0 ∷ get_or e 2 0 ∷ get_or e 3 0 ∷ get_or e 4 0 ∷ get_or e 0 0 ∷ get_or e 1 0 ∷ get_or e 8 0
    ∷ []

-- The S-box on eight words, word b holding bit b of every byte.
unfoldable pub sub_words : List ℕ → List ℕ
sub_words x = constant 0xffffffffffffffff (picked (run gates (inputs x)))
