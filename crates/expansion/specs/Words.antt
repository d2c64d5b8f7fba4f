-- The words of a key schedule (FIPS 197, section 5.2) as numbers below 2 ^ 32, the first byte the most significant. Assumes nothing.
use Rattle.std.specs.Prelude.{ℕ, ◌/◌, ◌%◌, ◌^◌, ◌<◌, ◌≤◌, ◌≡◌, List, [], ◌∷◌, get_or}
use Rattle.std.specs.Int.Bits.{bit_and}
use Rattle.circuit.specs.Bits.{bits_of, byte_of}
use Rattle.aes.specs.KeyExpansion.{word_at, key_expansion}

-- The four bytes of a number, the most significant first.
unfoldable pub word_bytes : ℕ → List ℕ
word_bytes n = n / 2 ^ 24 % 256 ∷ n / 2 ^ 16 % 256 ∷ n / 2 ^ 8 % 256 ∷ n % 256 ∷ []

-- The number n is the word of the four bytes a.
pub record Word (n : ℕ) (a : List ℕ) : Type 0 where
  pub small : n < 2 ^ 32
  pub bytes : word_bytes n ≡ a

-- The number r is the lowest bits of the four lowest bytes of x, each in its place.
pub record Picked (x r : ℕ) : Type 0 where
  pub value : r ≡ bit_and x 0x01010101
  pub small : r ≤ 0x01010101

-- A number shifted right by 0 to 7 places.
unfoldable pub shifted : ℕ → List ℕ
shifted n = n ∷ n / 2 ^ 1 ∷ n / 2 ^ 2 ∷ n / 2 ^ 3 ∷ n / 2 ^ 4 ∷ n / 2 ^ 5 ∷ n / 2 ^ 6 ∷ n / 2 ^ 7 ∷ []

-- The bytes whose bits are the bits 24, 16, 8 and 0 of eight words.
unfoldable pub low_bytes : List ℕ → List ℕ
low_bytes x = byte_of (bits_of 24 x) ∷ byte_of (bits_of 16 x) ∷ byte_of (bits_of 8 x) ∷ byte_of (bits_of 0 x) ∷ []

-- The 60 numbers w are the words of the schedule of a key.
pub record Expanded (key w : List ℕ) : Type 0 where
  pub word : (i : ℕ) → i < 60 → Word (get_or w i 0) (word_at (key_expansion key) i)
