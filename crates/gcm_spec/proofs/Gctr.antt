-- Laws of GCTR: its counter blocks while the lowest 32 bits do not wrap, and the text and tag made with it.
-- Assumes nothing.
use Prim.Native.Nat.{ℕ, zero, suc, ◌+◌, ◌*◌, ◌/◌, ◌%◌, ◌^◌, ◌<◌, ◌≤◌}
use mathlib.Core.Path.{◌≡◌, refl, sym, ap, ap₂, ◌∙◌}
use mathlib.Core.List.{List, [], ◌∷◌, ◌++◌}
use native.Mathlib.Nat.{add-zero, mod-eq_of_lt}
use native.Mathlib.Omega.{arith}
use lib.Arith.{digits_lt}
use lib.ListN.{length, get_or, get_or-eq_default}
use lib.Seq.{take_all}
use Rattle.block.specs.Bytes.{number, number_after, big_endian, window}
use Rattle.block.proofs.Bytes.{number-++, number-<, Bytes, big_endian-length}
use Rattle.block.proofs.Window.{window-++, window_part}
use Rattle.aes.specs.KeyExpansion.{key_expansion}
use Rattle.aes.specs.declared.RoundKeys.{RoundKeys}
use Rattle.ctr_spec.specs.CounterMode.{output_block, stream_byte, stream, xors, ctr_over}
use Rattle.ctr_spec.proofs.Xors.{xors-length, xors_twice}
use Rattle.ghash.specs.Hash.{ghash}
use Rattle.gcm_spec.specs.Gcm.{inc32, gctr_counter, gctr_stream, gctr, subkey, J0, hash_input, tag_under, gcm_tag, gcm_text}

-- ---- counter blocks

pub counter_low : (v k n : ℕ) → k + n < 2 ^ 32 → gctr_counter (v * 2 ^ 32 + k) n ≡ v * 2 ^ 32 + k + n
unfolding gctr_counter inc32
counter_low v k zero h = sym (add-zero (v * 2 ^ 32 + k))
counter_low v k (suc n) h =
    let e : (v * 2 ^ 32 + k + n) / 2 ^ 32 * 2 ^ 32 + (v * 2 ^ 32 + k + n + 1) % 2 ^ 32 ≡ v * 2 ^ 32 + k + suc n = omega arith in
    ap inc32 (counter_low v k n (omega arith)) ∙ e

stream_low : (w : List ℕ) (v k n len : ℕ) → k + n + len < 2 ^ 32 → stream w (v * 2 ^ 32 + k) n len ≡ gctr_stream w (v * 2 ^ 32 + k) n len
unfolding stream gctr_stream stream_byte
stream_low w v k n zero h = refl
stream_low w v k n (suc len) h =
    ap₂ (λ (b : ℕ) (l : List ℕ). b ∷ l)
    (ap (λ (x : ℕ). get_or (output_block w x) (n % 16) 0) (sym (counter_low v k (n / 16) (omega arith))))
    (stream_low w v k (n + 1) len (omega arith))

-- GCTR as counter mode makes it, from a counter block whose lowest 32 bits do not wrap.
gctr_over : (keys : RoundKeys) (v k : ℕ) (text : List ℕ) {x y : ℕ} → k + length text < 2 ^ 32 → x ≡ v * 2 ^ 32 + k → y ≡ v * 2 ^ 32 + k
    → ctr_over keys x 0 text ≡ gctr keys.schedule y text
unfolding gctr ctr_over
gctr_over keys v k text h ex ey =
    let w = keys.schedule in
    ap (λ (z : ℕ). xors text (stream w z 0 (length text))) ex
    ∙ ap (xors text) (stream_low w v k 0 (length text) (omega arith))
    ∙ ap (λ (z : ℕ). xors text (gctr_stream w z 0 (length text))) (sym ey)

-- ---- J0

number_low_byte : (iv : List ℕ) (k : ℕ) → number (iv ++ (0 ∷ 0 ∷ 0 ∷ k ∷ [])) ≡ number iv * 2 ^ 32 + k
unfolding number_after
number_low_byte iv k =
    let e : (((number iv * 256 + 0) * 256 + 0) * 256 + 0) * 256 + k ≡ number iv * 2 ^ 32 + k = omega arith in
    number-++ 0 iv (0 ∷ 0 ∷ 0 ∷ k ∷ []) ∙ e

J0-number : (iv : List ℕ) → J0 iv ≡ number iv * 2 ^ 32 + 1
unfolding J0
J0-number iv = number_low_byte iv 1

inc32-J0 : (iv : List ℕ) → inc32 (J0 iv) ≡ number iv * 2 ^ 32 + 2
unfolding inc32
inc32-J0 iv =
    let e : (number iv * 2 ^ 32 + 1) / 2 ^ 32 * 2 ^ 32 + (number iv * 2 ^ 32 + 1 + 1) % 2 ^ 32 ≡ number iv * 2 ^ 32 + 2 = omega arith in
    ap inc32 (J0-number iv) ∙ e

-- An IV of 12 bytes, loaded as a block, has zeros below it.
iv_window : (iv : List ℕ) → length iv ≡ 12 → window iv 0 16 ≡ iv ++ (0 ∷ 0 ∷ 0 ∷ 0 ∷ [])
unfolding window
iv_window iv e =
    let none : (i : ℕ) → 12 ≤ i → get_or iv i 0 ≡ 0 = λ i h. get_or-eq_default iv 0 (omega arith) in
    let zeros : get_or iv 12 0 ∷ get_or iv 13 0 ∷ get_or iv 14 0 ∷ get_or iv 15 0 ∷ [] ≡ 0 ∷ 0 ∷ 0 ∷ 0 ∷ [] =
    cc (none 12 (omega arith), none 13 (omega arith), none 14 (omega arith), none 15 (omega arith)) in
    window-++ iv 0 12 4
    ∙ ap₂ (λ (p q : List ℕ). p ++ q) (window_part iv 0 12 (omega arith) ∙ take_all 12 iv (omega arith)) zeros

-- The counter block of an IV and a number of 32 bits.
pub counter_iv : (iv : List ℕ) (k b r : ℕ) → length iv ≡ 12 → Bytes iv → k < 2 ^ 32 → b ≡ number (window iv 0 16) → r ≡ (b + k) % 2 ^ 128
    → r ≡ number iv * 2 ^ 32 + k
counter_iv iv k b r e bytes h eb er =
    let z : number iv * 2 ^ 32 + 0 ≡ number iv * 2 ^ 32 = add-zero (number iv * 2 ^ 32) in
    let below : number iv < 2 ^ 96 = rw e at (number-< iv bytes) in
    er
    ∙ ap (λ (x : ℕ). (x + k) % 2 ^ 128) (eb ∙ ap number (iv_window iv e) ∙ number_low_byte iv 0 ∙ z)
    ∙ mod-eq_of_lt (digits_lt below h)

-- ---- text and tag

module _ (key iv : List ℕ) where
  -- The text, as counter mode makes it.
  pub text_over : (text : List ℕ) {keys : RoundKeys} {o : List ℕ} {x : ℕ} → keys.schedule ≡ key_expansion key → x ≡ number iv * 2 ^ 32 + 2
      → length text ≤ 4096 → o ≡ ctr_over keys x 0 text → o ≡ gcm_text key iv text
  unfolding gcm_text
  text_over text {keys} ew ex h eo =
      eo ∙ gctr_over keys (number iv) 2 text (omega arith) ex (inc32-J0 iv) ∙ ap (λ (u : List ℕ). gctr u (inc32 (J0 iv)) text) ew

  pub text_length : (text : List ℕ) → length (gcm_text key iv text) ≡ length text
  unfolding gcm_text gctr
  text_length text = xors-length text _

  pub text_twice : (text : List ℕ) → gcm_text key iv (gcm_text key iv text) ≡ text
  unfolding gcm_text gctr
  text_twice text =
      let ks : ℕ → List ℕ = gctr_stream (key_expansion key) (inc32 (J0 iv)) 0 in
      ap (λ (l : ℕ). xors (xors text (ks (length text))) (ks l)) (xors-length text (ks (length text)))
      ∙ xors_twice text (ks (length text))

-- The tag, as counter mode makes it of the hash.
pub tag_over : (keys : RoundKeys) (iv aad c : List ℕ) {h s x : ℕ} {b m : List ℕ} → h ≡ subkey keys.schedule → s ≡ ghash h (hash_input aad c)
    → b ≡ big_endian 16 s → x ≡ number iv * 2 ^ 32 + 1 → m ≡ ctr_over keys x 0 b → m ≡ tag_under keys.schedule iv aad c
unfolding tag_under
tag_over keys iv aad c {x = x} eh es eb ex em =
    let w = keys.schedule in
    let t : List ℕ = big_endian 16 (ghash (subkey w) (hash_input aad c)) in
    let n : length t ≡ 16 = big_endian-length 16 (ghash (subkey w) (hash_input aad c)) in
    em
    ∙ ap (ctr_over keys x 0) (eb ∙ ap (big_endian 16) (es ∙ ap (λ (z : ℕ). ghash z (hash_input aad c)) eh))
    ∙ gctr_over keys (number iv) 1 t (omega arith) ex (J0-number iv)

pub tag_under-length : (w iv aad c : List ℕ) → length (tag_under w iv aad c) ≡ 16
unfolding tag_under gctr
tag_under-length w iv aad c = xors-length (big_endian 16 _) _ ∙ big_endian-length 16 _

pub tag_key : (key iv aad c : List ℕ) {w m : List ℕ} → w ≡ key_expansion key → m ≡ tag_under w iv aad c → m ≡ gcm_tag key iv aad c
unfolding gcm_tag
tag_key key iv aad c ew em = em ∙ ap (λ (u : List ℕ). tag_under u iv aad c) ew

pub tag_length : (key iv aad c : List ℕ) → length (gcm_tag key iv aad c) ≡ 16
unfolding gcm_tag
tag_length key iv aad c = tag_under-length (key_expansion key) iv aad c

-- The hash subkey, from the cipher of the zero block.
pub subkey_block : (w : List ℕ) {b : List ℕ} {x : ℕ} → b ≡ output_block w 0 → length b ≡ 16 → x ≡ number (window b 0 16) → x ≡ subkey w
unfolding subkey
subkey_block w {b} eb n ex = ex ∙ ap number (window_part b 0 16 (omega arith) ∙ take_all 16 b (omega arith) ∙ eb)
