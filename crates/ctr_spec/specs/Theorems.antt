-- What is proved of counter mode, for those who keep it shut. Assumes nothing.
use Rattle.std.specs.Prelude.{ℕ, ◌+◌, ◌/◌, ◌%◌, ◌<◌, ◌≤◌, ◌≡◌, List, length, take, drop, replicate, get_or}
use Rattle.aes.specs.KeyExpansion.{key_expansion}
use Rattle.aes.specs.Cipher.{cipher}
use Rattle.aes.specs.declared.RoundKeys.{RoundKeys}
use Rattle.block.specs.Bytes.{number}
use Rattle.ctr_spec.specs.CounterMode.{increment, counter_at, keystream_byte, keystream, ctr_from, ctr, ctr_over}

pub record CtrLaws : Type 0 where
  -- Twice with one key and IV is the text again, and the length stays.
  pub twice : (key iv text : List ℕ) → ctr key iv (ctr key iv text) ≡ text
  pub ctr_length : (key iv text : List ℕ) → length (ctr key iv text) ≡ length text
  -- n bytes from byte k on are those of counter mode begun at byte k.
  pub part : (key iv : List ℕ) (k n : ℕ) (text : List ℕ) → k + n ≤ length text
      → take n (drop k (ctr key iv text)) ≡ ctr_from key iv k (take n (drop k text))
  -- The first counter block is the IV, each next is one more, and all FF is followed by all 00.
  pub first : (iv : List ℕ) → length iv ≡ 16 → ((i : ℕ) → i < 16 → get_or iv i 0 < 256) → counter_at iv 0 ≡ iv
  pub next : (iv : List ℕ) (n : ℕ) → counter_at iv (n + 1) ≡ increment (counter_at iv n)
  pub wraps : increment (replicate 16 0xFF) ≡ replicate 16 0x00
  -- Byte n of the keystream is one of the cipher of counter block n / 16, and the keystream is made of these bytes.
  pub byte : (key iv : List ℕ) (n : ℕ) → keystream_byte key iv n ≡ get_or (cipher (key_expansion key) (counter_at iv (n / 16))) (n % 16) 0
  pub bytes : (key iv : List ℕ) (n len i : ℕ) → i < len → get_or (keystream key iv n len) i 0 ≡ keystream_byte key iv (n + i)
  -- Counter mode over the round keys of a key is counter mode of the key, for every key, IV and text (document 02, P3).
  pub over_round_keys : (keys : RoundKeys) (key iv text : List ℕ) → keys.schedule ≡ key_expansion key
      → ctr_over keys (number iv) 0 text ≡ ctr key iv text
  pub over_round_keys_from : (keys : RoundKeys) (key iv : List ℕ) (n : ℕ) (text : List ℕ) → keys.schedule ≡ key_expansion key
      → ctr_over keys (number iv) n text ≡ ctr_from key iv n text
