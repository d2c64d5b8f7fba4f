-- What is proved of the circuit beside the contracts. Assumes nothing.
use Rattle.std.specs.Prelude.{ℕ, ◌<◌, ◌≡◌, List}
use Rattle.field.specs.Sbox.{sbox}
use Rattle.circuit.specs.Bits.{bits_of, byte_of}
use Rattle.circuit.specs.Circuit.{sub_words}

-- The circuit is SBOX on each of the 64 bytes of eight words.
pub record SubLaws : Type 0 where
  pub at : (x : List ℕ) (i : ℕ) → i < 64 → byte_of (bits_of i (sub_words x)) ≡ sbox (byte_of (bits_of i x))
