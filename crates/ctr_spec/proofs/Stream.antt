-- Laws of the stream and of counter mode. Assumes nothing.
use Prim.Native.Nat.{ℕ, zero, suc, ◌+◌, ◌-◌, ◌/◌, ◌%◌, ◌<◌, ◌≤◌}
use mathlib.Core.Path.{◌≡◌, refl, sym, ap, ap₂, ◌∙◌}
use mathlib.Core.List.{List, [], ◌∷◌, ◌++◌}
use native.Mathlib.Nat.{zero-add, add-zero}
use native.Mathlib.Numerals.{add-one}
use native.Mathlib.Omega.{arith}
use lib.ListN.{length, get_or, set, take, drop, length-drop}
use lib.Seq.{take_all, take-suc, take-suc-set, length-take-le}
use lib.Bits.{bit_xor}
use Rattle.block.specs.Bytes.{number}
use Rattle.aes.specs.KeyExpansion.{key_expansion}
use Rattle.ctr_spec.specs.CounterMode.{output_block, stream_byte, stream, xors, keystream_byte, keystream, ctr_from, ctr}
use Rattle.ctr_spec.proofs.Xors.{xors_twice, xors-length, xors_get_or, xors-drop, xors-take}

-- ---- the stream

module _ (w : List ℕ) (x : ℕ) where
  pub stream_length : (n len : ℕ) → length (stream w x n len) ≡ len
  unfolding stream
  stream_length n zero = refl
  stream_length n (suc len) = ap suc (stream_length (n + 1) len)

  pub stream_get_or : (n len i : ℕ) → i < len → get_or (stream w x n len) i 0 ≡ stream_byte w x (n + i)
  unfolding stream
  stream_get_or n zero i h = absurd (omega arith)
  stream_get_or n (suc len) zero h = ap (stream_byte w x) (sym (add-zero n))
  stream_get_or n (suc len) (suc i) h =
      let e : n + 1 + i ≡ n + suc i = omega arith in
      stream_get_or (n + 1) len i (omega arith) ∙ ap (stream_byte w x) e

  stream_drop : (n len k : ℕ) → drop k (stream w x n len) ≡ stream w x (n + k) (len - k)
  unfolding stream
  stream_drop n len zero =
      let e : n ≡ n + 0 = omega arith in
      let f : len ≡ len - 0 = omega arith in
      ap₂ (stream w x) e f
  stream_drop n zero (suc k) =
      let f : 0 ≡ 0 - suc k = omega arith in
      ap (stream w x (n + suc k)) f
  stream_drop n (suc len) (suc k) =
      let e : n + 1 + k ≡ n + suc k = omega arith in
      let f : len - k ≡ suc len - suc k = omega arith in
      stream_drop (n + 1) len k ∙ ap₂ (stream w x) e f

  stream_take : (m n len : ℕ) → n ≤ len → take n (stream w x m len) ≡ stream w x m n
  unfolding stream
  stream_take m zero len h = refl
  stream_take m (suc n) zero h = absurd (omega arith)
  stream_take m (suc n) (suc len) h = ap (λ (l : List ℕ). stream_byte w x m ∷ l) (stream_take (m + 1) n len (omega arith))

-- ---- counter mode

module _ (key iv : List ℕ) where
  pub keystream_get_or : (n len i : ℕ) → i < len → get_or (keystream key iv n len) i 0 ≡ keystream_byte key iv (n + i)
  unfolding keystream keystream_byte
  keystream_get_or = stream_get_or (key_expansion key) (number iv)

  pub ctr_twice : (text : List ℕ) → ctr key iv (ctr key iv text) ≡ text
  unfolding ctr ctr_from
  ctr_twice text =
      let ks : ℕ → List ℕ = keystream key iv 0 in
      ap (λ (l : ℕ). xors (xors text (ks (length text))) (ks l)) (xors-length text (ks (length text)))
      ∙ xors_twice text (ks (length text))

  pub ctr_length : (text : List ℕ) → length (ctr key iv text) ≡ length text
  unfolding ctr ctr_from
  ctr_length text = xors-length text (keystream key iv 0 (length text))

  ctr_drop : (k : ℕ) (text : List ℕ) → drop k (ctr key iv text) ≡ ctr_from key iv k (drop k text)
  unfolding ctr ctr_from keystream
  ctr_drop k text =
      xors-drop k text _ (sym (stream_length _ _ 0 (length text)))
      ∙ ap (xors (drop k text)) (stream_drop _ _ 0 (length text) k ∙ ap₂ (stream _ _) (zero-add k) (sym (length-drop k text)))

  ctr_from_take : (k n : ℕ) (text : List ℕ) → n ≤ length text → take n (ctr_from key iv k text) ≡ ctr_from key iv k (take n text)
  unfolding ctr_from keystream
  ctr_from_take k n text h =
      xors-take n text _
      ∙ ap (xors (take n text)) (stream_take _ _ k n (length text) h ∙ ap (stream _ _ k) (sym (length-take-le n text h)))

  -- n bytes from byte k on.
  pub ctr_part : (k n : ℕ) (text : List ℕ) → k + n ≤ length text → take n (drop k (ctr key iv text)) ≡ ctr_from key iv k (take n (drop k text))
  ctr_part k n text h = ap (take n) (ctr_drop k text) ∙ ctr_from_take k n (drop k text) (simp length-drop (omega arith))

-- ---- the loop over bytes

-- A turn: one byte more of the output is the sum's.
pub stream_turn : (w : List ℕ) (x n i : ℕ) (text out s : List ℕ) → i < length text → length out ≡ length text
    → s ≡ output_block w (x + (n + i) / 16) → take i out ≡ take i (xors text (stream w x n (length text)))
    → take (i + 1) (set out i (bit_xor (get_or text i 0) (get_or s ((n + i) % 16) 0))) ≡ take (i + 1) (xors text (stream w x n (length text)))
unfolding stream_byte
stream_turn w x n i text out s h k es eo =
    let a : List ℕ = stream w x n (length text) in
    let b : ℕ = bit_xor (get_or text i 0) (get_or s ((n + i) % 16) 0) in
    let byte : b ≡ get_or (xors text a) i 0 =
    sym
    (xors_get_or text a i h (rw stream_length h)
    ∙ ap (bit_xor (get_or text i 0)) (stream_get_or w x n (length text) i h ∙ ap (λ (u : List ℕ). get_or u ((n + i) % 16) 0) (sym es))) in
    ap (λ (m : ℕ). take m (set out i b)) (add-one i)
    ∙ take-suc-set out i b (omega arith)
    ∙ ap₂ (λ (p : List ℕ) (q : ℕ). p ++ (q ∷ [])) eo byte
    ∙ sym (take-suc (xors text a) i 0 (rw xors-length h))
    ∙ ap (λ (m : ℕ). take m (xors text a)) (sym (add-one i))

-- All of it is written.
pub take_whole : (d s : List ℕ) (i : ℕ) → length d ≤ i → length s ≤ i → take i d ≡ take i s → d ≡ s
take_whole d s i h k e = sym (take_all i d h) ∙ e ∙ take_all i s k
