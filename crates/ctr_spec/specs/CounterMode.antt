-- SP 800-38A, section 6.5, under AES-256, with the counters of appendix B.1 over all 128 bits (document 01, "Slice").
-- Assumes nothing.
use Rattle.std.specs.Prelude.{ℕ, zero, suc, ◌+◌, ◌/◌, ◌%◌, List, [], ◌∷◌, length, get_or}
use Rattle.std.specs.Int.Bits.{bit_xor}
use Rattle.block.specs.Bytes.{number, big_endian}
use Rattle.aes.specs.KeyExpansion.{key_expansion}
use Rattle.aes.specs.Cipher.{cipher}
use Rattle.aes.specs.declared.RoundKeys.{RoundKeys}

-- The counter block after c: one more over all 128 bits, so that all FF is followed by all 00.
unfoldable pub increment : List ℕ → List ℕ
increment c = big_endian 16 (number c + 1)

-- Counter block n, the IV being block 0.
unfoldable pub counter_at : List ℕ → ℕ → List ℕ
counter_at iv n = big_endian 16 (number iv + n)

-- The output block of the counter block with the number x, under a schedule.
unfoldable pub output_block : List ℕ → ℕ → List ℕ
output_block w x = cipher w (big_endian 16 x)

-- Byte n of the output blocks under a schedule, the first counter block having the number x.
unfoldable pub stream_byte : List ℕ → ℕ → ℕ → ℕ
stream_byte w x n = get_or (output_block w (x + n / 16)) (n % 16) 0

-- The len bytes of that stream from byte n on.
unfoldable pub stream : List ℕ → ℕ → ℕ → ℕ → List ℕ
stream w x n zero = []
stream w x n (suc len) = stream_byte w x n ∷ stream w x (n + 1) len

-- Byte n of the keystream of a key and an IV.
unfoldable pub keystream_byte : List ℕ → List ℕ → ℕ → ℕ
keystream_byte key iv n = stream_byte (key_expansion key) (number iv) n

-- The len bytes of the keystream from byte n on.
unfoldable pub keystream : List ℕ → List ℕ → ℕ → ℕ → List ℕ
keystream key iv n len = stream (key_expansion key) (number iv) n len

-- The sum of a text and a keystream, byte by byte; a byte that has no partner stays.
unfoldable pub xors : List ℕ → List ℕ → List ℕ
xors [] ks = []
xors (x ∷ xs) [] = x ∷ xs
xors (x ∷ xs) (k ∷ ks) = bit_xor x k ∷ xors xs ks

-- Counter mode of a text that begins at byte n of a longer one.
unfoldable pub ctr_from : List ℕ → List ℕ → ℕ → List ℕ → List ℕ
ctr_from key iv n text = xors text (keystream key iv n (length text))

-- Counter mode of a text, enciphering and deciphering alike.
unfoldable pub ctr : List ℕ → List ℕ → List ℕ → List ℕ
ctr key iv text = ctr_from key iv 0 text

-- Counter mode over a record of round keys (document 02, P3), from the counter block with the number x, of a text that begins at byte n
-- of a longer one.
unfoldable pub ctr_over : RoundKeys → ℕ → ℕ → List ℕ → List ℕ
ctr_over keys x n text = xors text (stream keys.schedule x n (length text))
