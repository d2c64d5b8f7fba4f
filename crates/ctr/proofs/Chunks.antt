-- Laws of a text that is enciphered chunk by chunk, from output blocks in a buffer. Assumes nothing.
use Prim.Native.Nat.{ℕ, zero, suc, ◌+◌, ◌*◌, ◌/◌, ◌%◌, ◌≤◌, ◌<◌}
use mathlib.Core.Path.{◌≡◌, refl, sym, ap, ap₂, ◌∙◌}
use mathlib.Core.List.{List}
use native.Mathlib.Nat.{add-zero}
use native.Mathlib.Numerals.{add-one}
use native.Mathlib.Omega.{arith}
use lib.ListN.{length, get_or, set, length-set}
use lib.Seq.{get_or-set_same, get_or-set_other, ext_get_or}
use lib.Bits.{bit_xor}
use borrow.Author.Count.{below_more}
use Rattle.block.specs.Bytes.{number, big_endian, window}
use Rattle.aes.specs.KeyExpansion.{key_expansion}
use Rattle.aes.specs.Cipher.{cipher}
use Rattle.planes.specs.Rounds.{KeyPlanes}
use Rattle.keystream.specs.Blocks.{OutputBlocks}
use Rattle.ctr_spec.specs.CounterMode.{output_block, stream_byte, stream, xors, keystream, ctr_from}
use Rattle.ctr.specs.Chunks.{add_stream}
use Rattle.ctr_spec.proofs.Xors.{xors-length, xors_get_or}
use Rattle.ctr_spec.proofs.Stream.{stream_length, stream_get_or}
use Rattle.ctr_spec.proofs.Counter.{number_iv}

-- ---- the loop over a chunk

pub add_none : (buf : List ℕ) (off at : ℕ) (text out : List ℕ) → out ≡ add_stream buf off at 0 text out
unfolding add_stream
add_none buf off at text out = refl

pub add_turn : (buf : List ℕ) (off at i : ℕ) (text out₀ out : List ℕ) → out ≡ add_stream buf off at i text out₀
    → set out (at + i) (bit_xor (get_or text (at + i) 0) (get_or buf (off + i) 0)) ≡ add_stream buf off at (i + 1) text out₀
unfolding add_stream
add_turn buf off at i text out₀ out e = rw (add-one i, e)

pub add_length : (buf : List ℕ) (off at k : ℕ) (text out : List ℕ) → length (add_stream buf off at k text out) ≡ length out
unfolding add_stream
add_length buf off at zero text out = refl
add_length buf off at (suc k) text out = length-set (add_stream buf off at k text out) (at + k) _ ∙ add_length buf off at k text out

-- ---- the loop over chunks

-- The first m bytes of out are those of s.
abbrev pub Agree : List ℕ → List ℕ → ℕ → Type 0
Agree out s m = (i : ℕ) → i < m → get_or out i 0 ≡ get_or s i 0

module _ (w keys : List ℕ) (x n at lanes m : ℕ) (text out buf : List ℕ) (planes : KeyPlanes w keys)
    (blocks : OutputBlocks keys (x + (n + at) / 16) lanes buf) (room : (n + at) % 16 + m ≤ 256 * lanes) (inside : at + m ≤ length text)
    (same : length out ≡ length text) (before : Agree out (xors text (stream w x n (length text))) at) where
  -- Byte k of the chunk.
  chunk_byte : (k : ℕ) → k < m
      → bit_xor (get_or text (at + k) 0) (get_or buf ((n + at) % 16 + k) 0) ≡ get_or (xors text (stream w x n (length text))) (at + k) 0
  unfolding stream_byte output_block
  chunk_byte k h =
      let t : ℕ = (n + at) % 16 + k in
      let d : x + (n + at) / 16 + t / 16 ≡ x + (n + (at + k)) / 16 = omega arith in
      let r : t % 16 ≡ (n + (at + k)) % 16 = omega arith in
      ap (bit_xor (get_or text (at + k) 0))
      (blocks.byte w planes t (omega arith)
      ∙ ap₂ (λ (p q : ℕ). get_or (cipher w (big_endian 16 p)) q 0) d r
      ∙ sym (stream_get_or w x n (length text) (at + k) (omega arith)))
      ∙ sym (xors_get_or text _ (at + k) (omega arith) (rw stream_length (omega arith)))

  chunk_bytes : (k : ℕ) → k ≤ m → Agree (add_stream buf ((n + at) % 16) at k text out) (xors text (stream w x n (length text))) (at + k)
  unfolding add_stream
  chunk_bytes zero h = rw add-zero before
  chunk_bytes (suc k) h =
      let d : List ℕ = add_stream buf ((n + at) % 16) at k text out in
      let l : length d ≡ length out = add_length buf _ at k text out in
      let e : at + suc k ≡ at + k + 1 = omega arith in
      rw e
      (below_more _ (at + k)
      (λ i b. get_or-set_other d (at + k) i _ 0 (λ q. omega arith) ∙ chunk_bytes k (omega arith) i b)
      (get_or-set_same d (at + k) _ 0 (omega arith) ∙ chunk_byte k (omega arith)))

  pub chunk_turn : (out' : List ℕ) → out' ≡ add_stream buf ((n + at) % 16) at m text out
      → Agree out' (xors text (stream w x n (length text))) (at + m)
  chunk_turn out' e = rw e (chunk_bytes m (omega arith))

-- All of it is written, from an IV that was loaded as a block with the number x.
pub chunks_done : (key iv : List ℕ) (n at : ℕ) (text out : List ℕ) {x : ℕ} → x ≡ number (window iv 0 16) → length iv ≡ 16
    → length text ≤ at → length out ≡ length text → Agree out (xors text (stream (key_expansion key) x n (length text))) at
    → out ≡ ctr_from key iv n text
unfolding ctr_from keystream
chunks_done key iv n at text out {x} ex h l same a =
    ext_get_or 0 out _ (rw xors-length same) (λ i b. a i (omega arith))
    ∙ ap (λ (y : ℕ). xors text (stream (key_expansion key) y n (length text))) (ex ∙ number_iv iv h)
