-- What is proved of AES-256 for those who keep it shut. Assumes nothing.
use Rattle.std.specs.Prelude.{ℕ, ◌≡◌, List, length}
use Rattle.aes.specs.KeyExpansion.{key_expansion}
use Rattle.aes.specs.Cipher.{cipher}

pub record AesLaws : Type 0 where
  -- A schedule is 240 bytes, and the cipher of a block 16.
  pub schedule_length : (key : List ℕ) → length key ≡ 32 → length (key_expansion key) ≡ 240
  pub cipher_length : (w block : List ℕ) → length (cipher w block) ≡ 16
