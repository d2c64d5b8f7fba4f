-- The transposition of 32 words in five stages of delta swaps, and what it does to each bit. Assumes nothing.
use Rattle.std.specs.Prelude.{ℕ, zero, suc, ◌+◌, ◌*◌, ◌/◌, ◌%◌, ◌<◌, ◌≤◌, ◌≡◌, List, [], ◌∷◌, ◌++◌, get_or, length}
use Rattle.circuit.specs.Bits.{bit_of}
use Rattle.swaps.specs.Transpose.{Swap, swap, swaps}

-- The first word of swap i of a stage by h places.
abbrev pub first : ℕ → ℕ → ℕ
first h i = i / h * (2 * h) + i % h

-- The 16 swaps of a stage by h places are swaps of two of 32 words.
pub record Apart (h : ℕ) : Type 0 where
  pub some : 0 < h
  pub few : h ≤ 16
  pub within : (i : ℕ) → i < 16 → first h i + h < 32

-- The first n swaps of the stage by h places under the mask m, the last first.
unfoldable pub stage : ℕ → ℕ → ℕ → List Swap
stage h m zero = []
stage h m (suc i) = swap h m (first h i) ∷ stage h m i

-- The swaps of all five stages, the last first.
unfoldable pub whole : List Swap
whole =
    stage 1 0x5555555555555555 16
    ++ (stage 2 0x3333333333333333 16
    ++ (stage 4 0x0f0f0f0f0f0f0f0f 16 ++ (stage 8 0x00ff00ff00ff00ff 16 ++ stage 16 0x0000ffff0000ffff 16)))

-- The words transposed.
unfoldable pub turned_of : List ℕ → List ℕ
turned_of x = swaps whole x

-- What the transposition of 32 words is: each half of 32 bits is turned, and there are 32 words again.
pub record TurnLaws : Type 0 where
  pub at : (x : List ℕ) → length x ≡ 32 → (w i : ℕ) → w < 32 → i < 64
      → bit_of i (get_or (turned_of x) w 0) ≡ bit_of (i / 32 * 32 + w) (get_or x (i % 32) 0)
  pub turned_length : (x : List ℕ) → length x ≡ 32 → length (turned_of x) ≡ 32
