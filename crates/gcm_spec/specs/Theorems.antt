-- What is proved of GCM, for those who keep it shut. Assumes nothing.
use Rattle.std.specs.Prelude.{ℕ, ◌+◌, ◌*◌, ◌^◌, ◌<◌, ◌≡◌, true, List, length}
use Rattle.gcm_spec.specs.Gcm.{gctr_counter, gcm_tag, gcm_text, same, Text, gcm_open}

pub record GcmLaws : Type 0 where
  -- Opening what was sealed gives the text back.
  pub opens : (key iv aad text : List ℕ) → gcm_open key iv aad (gcm_text key iv text) (gcm_tag key iv aad (gcm_text key iv text)) ≡ Text text
  -- What opens is the text of the ciphertext, and its tag is the right one.
  pub opened : (key iv aad c tag text : List ℕ) → gcm_open key iv aad c tag ≡ Text text → (text ≡ gcm_text key iv c) × (tag ≡ gcm_tag key iv aad c)
  -- Twice is the text again, and the length stays; a tag has 16 bytes.
  pub twice : (key iv text : List ℕ) → gcm_text key iv (gcm_text key iv text) ≡ text
  pub text_length : (key iv text : List ℕ) → length (gcm_text key iv text) ≡ length text
  pub tag_length : (key iv aad c : List ℕ) → length (gcm_tag key iv aad c) ≡ 16
  -- The test of tags is equality.
  pub same_refl : (a : List ℕ) → same a a ≡ true
  pub same_equal : (a b : List ℕ) → same a b ≡ true → a ≡ b
  -- The counter blocks of GCTR, while the lowest 32 bits do not wrap.
  pub counters : (v k n : ℕ) → k + n < 2 ^ 32 → gctr_counter (v * 2 ^ 32 + k) n ≡ v * 2 ^ 32 + k + n
