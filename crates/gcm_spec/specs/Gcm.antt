-- SP 800-38D: GCM under AES-256, with an IV of 96 bits and a tag of 128. A block stands as the number of its bits.
-- Assumes nothing.
use Rattle.std.specs.Prelude.{ℕ, zero, suc, ◌+◌, ◌*◌, ◌/◌, ◌%◌, ◌^◌, Bool, true, false, ◌&&◌, List, [], ◌∷◌, ◌++◌, eqb, length, get_or}
use Rattle.block.specs.Bytes.{number, big_endian}
use Rattle.aes.specs.KeyExpansion.{key_expansion}
use Rattle.ctr_spec.specs.CounterMode.{output_block, xors}
use Rattle.ghash.specs.Hash.{ghash, pad}

-- inc32 (6.2): one more in the lowest 32 bits, the others kept.
unfoldable pub inc32 : ℕ → ℕ
inc32 x = x / 2 ^ 32 * 2 ^ 32 + (x + 1) % 2 ^ 32

-- Counter block n of GCTR (6.5, steps 4 and 5), the initial counter block x being block 0.
unfoldable pub gctr_counter : ℕ → ℕ → ℕ
gctr_counter x zero = x
gctr_counter x (suc n) = inc32 (gctr_counter x n)

-- The len bytes from byte n on of the output blocks of these counter blocks, under a schedule.
unfoldable pub gctr_stream : List ℕ → ℕ → ℕ → ℕ → List ℕ
gctr_stream w x n zero = []
gctr_stream w x n (suc len) = get_or (output_block w (gctr_counter x (n / 16))) (n % 16) 0 ∷ gctr_stream w x (n + 1) len

-- GCTR (6.5) of a text, under a schedule, from the initial counter block x.
unfoldable pub gctr : List ℕ → ℕ → List ℕ → List ℕ
gctr w x text = xors text (gctr_stream w x 0 (length text))

-- The hash subkey H (7.1, step 1): the cipher of the zero block.
unfoldable pub subkey : List ℕ → ℕ
subkey w = number (output_block w 0)

-- J0 (7.1, step 2): the IV, then 31 bits 0 and a bit 1.
unfoldable pub J0 : List ℕ → ℕ
J0 iv = number (iv ++ (0 ∷ 0 ∷ 0 ∷ 1 ∷ []))

-- What GHASH is taken of (7.1, step 5): associated data and ciphertext, each padded, then their lengths in bits.
unfoldable pub hash_input : List ℕ → List ℕ → List ℕ
hash_input aad c = pad aad ++ (pad c ++ (big_endian 8 (length aad * 8) ++ big_endian 8 (length c * 8)))

-- The tag T (7.1, steps 5 and 6) of associated data and ciphertext, under a schedule.
unfoldable pub tag_under : List ℕ → List ℕ → List ℕ → List ℕ → List ℕ
tag_under w iv aad c = gctr w (J0 iv) (big_endian 16 (ghash (subkey w) (hash_input aad c)))

-- The tag of associated data and ciphertext under a key.
unfoldable pub gcm_tag : List ℕ → List ℕ → List ℕ → List ℕ → List ℕ
gcm_tag key iv aad c = tag_under (key_expansion key) iv aad c

-- The ciphertext of a text (7.1, step 3), and the text of a ciphertext (7.2, step 5): the same sum.
unfoldable pub gcm_text : List ℕ → List ℕ → List ℕ → List ℕ
gcm_text key iv text = gctr (key_expansion key) (inc32 (J0 iv)) text

-- Whether two lists are the same.
unfoldable pub same : List ℕ → List ℕ → Bool
same [] [] = true
same [] (y ∷ ys) = false
same (x ∷ xs) [] = false
same (x ∷ xs) (y ∷ ys) = eqb x y && same xs ys

-- What opening gives (7.2, steps 6 and 7): the text where the tag is right, else none.
pub data Opened : Type 0 where
  Text : List ℕ → Opened
  WrongTag : Opened

-- The text where the test holds.
abbrev pub text_if : Bool → List ℕ → Opened
text_if true text = Text text
text_if false text = WrongTag

-- Opening of a ciphertext with its tag (7.2).
unfoldable pub gcm_open : (key iv aad c tag : List ℕ) → Opened
gcm_open key iv aad c tag = text_if (same (gcm_tag key iv aad c) tag) (gcm_text key iv c)
