-- What is proved of a row of MIXCOLUMNS beside the contracts. Assumes nothing.
use Rattle.std.specs.Prelude.{ℕ, ◌≡◌, List}
use Rattle.std.specs.Int.Bits.{bit_xor}
use Rattle.field.specs.Field.{xtimes}
use Rattle.rounds.specs.State.{mix_byte}
use Rattle.circuit.specs.Bits.{bits_of, byte_of}
use Rattle.mix.specs.Mix.{sum_words, doubled_words, mix_words}

-- On each byte of eight words: the sum of bytes, XTIMES, and a byte of MIXCOLUMNS.
pub record MixLaws : Type 0 where
  pub sum : (a b : List ℕ) (i : ℕ) → byte_of (bits_of i (sum_words a b)) ≡ bit_xor (byte_of (bits_of i a)) (byte_of (bits_of i b))
  pub doubled : (x : List ℕ) (i : ℕ) → byte_of (bits_of i (doubled_words x)) ≡ xtimes (byte_of (bits_of i x))
  pub mixed : (a b c d : List ℕ) (i : ℕ)
      → byte_of (bits_of i (mix_words a b c d))
      ≡ mix_byte (byte_of (bits_of i a)) (byte_of (bits_of i b)) (byte_of (bits_of i c)) (byte_of (bits_of i d))
