-- Laws of the counter blocks, each the one before plus one, over all 128 bits; and counter mode over a record of round keys. Assumes nothing.
use Prim.Native.Nat.{ℕ, ◌+◌, ◌/◌, ◌%◌, ◌^◌, ◌<◌}
use mathlib.Core.Path.{◌≡◌, refl, sym, ap, ap₂, ◌∙◌}
use mathlib.Core.List.{List}
use native.Mathlib.Nat.{zero-add, add-zero, add_assoc, mod-add-mod}
use native.Mathlib.Omega.{arith}
use lib.ListN.{length, get_or, replicate}
use lib.Seq.{take_all}
use Rattle.block.specs.Bytes.{number, number_after, big_endian, window}
use Rattle.block.proofs.Bytes.{number-big_endian, big_endian-number, big_endian_low}
use Rattle.block.proofs.Window.{window_part}
use Rattle.aes.specs.KeyExpansion.{key_expansion}
use Rattle.aes.specs.Cipher.{cipher}
use Rattle.aes.specs.declared.RoundKeys.{RoundKeys}
use Rattle.ctr_spec.proofs.Xors.{xors-length}
use Rattle.ctr_spec.specs.CounterMode.{increment, counter_at, output_block, stream_byte, keystream_byte, keystream, stream, xors, ctr_from, ctr, ctr_over}

pub counter_next : (iv : List ℕ) (n : ℕ) → counter_at iv (n + 1) ≡ increment (counter_at iv n)
unfolding counter_at increment
counter_next iv n =
    let y : ℕ = number iv + n in
    ap (big_endian 16) (sym (add_assoc (number iv) n 1))
    ∙ sym (big_endian_low 16 (y + 1))
    ∙ ap (big_endian 16) (sym (mod-add-mod y (2 ^ 128) 1))
    ∙ big_endian_low 16 (y % 2 ^ 128 + 1)
    ∙ ap (λ (t : ℕ). big_endian 16 (t + 1)) (sym (number-big_endian 0 16 y ∙ zero-add (y % 2 ^ 128)))

pub counter_first : (iv : List ℕ) → length iv ≡ 16 → ((i : ℕ) → i < 16 → get_or iv i 0 < 256) → counter_at iv 0 ≡ iv
unfolding counter_at
counter_first iv e h = ap₂ big_endian (sym e) (add-zero (number iv)) ∙ big_endian-number iv (λ i k. h i (omega arith))

pub counter_wraps : increment (replicate 16 0xFF) ≡ replicate 16 0x00
unfolding increment big_endian number_after
counter_wraps = refl

pub keystream_byte_lem : (key iv : List ℕ) (n : ℕ) → keystream_byte key iv n ≡ get_or (cipher (key_expansion key) (counter_at iv (n / 16))) (n % 16) 0
unfolding keystream_byte stream_byte output_block counter_at
keystream_byte_lem key iv n = refl

-- The cipher of a counter block, from the bytes of the number modulo 2^128.
pub output_low : (w : List ℕ) (x : ℕ) {b : List ℕ} {y : ℕ} → b ≡ big_endian 16 y → y ≡ x % 2 ^ 128 → cipher w b ≡ output_block w x
unfolding output_block
output_low w x eb ey = ap (cipher w) (eb ∙ ap (big_endian 16) ey ∙ big_endian_low 16 x)

-- The number of an IV that was loaded as a block.
pub number_iv : (iv : List ℕ) → length iv ≡ 16 → number (window iv 0 16) ≡ number iv
number_iv iv e = ap number (window_part iv 0 16 (omega arith) ∙ take_all 16 iv (omega arith))

-- ---- over a record of round keys

pub over_from : (keys : RoundKeys) (key iv : List ℕ) (n : ℕ) (text : List ℕ) → keys.schedule ≡ key_expansion key
    → ctr_over keys (number iv) n text ≡ ctr_from key iv n text
unfolding ctr_over ctr_from keystream
over_from keys key iv n text e = ap (λ (w : List ℕ). xors text (stream w (number iv) n (length text))) e

pub over_whole : (keys : RoundKeys) (key iv text : List ℕ) → keys.schedule ≡ key_expansion key → ctr_over keys (number iv) 0 text ≡ ctr key iv text
unfolding ctr
over_whole keys key iv text e = over_from keys key iv 0 text e

pub over_length : (keys : RoundKeys) (x n : ℕ) (text : List ℕ) → length (ctr_over keys x n text) ≡ length text
unfolding ctr_over
over_length keys x n text = xors-length text _

-- Counter mode of the key, from an IV that was loaded as a block with the number x.
pub over_loaded : (keys : RoundKeys) (key iv : List ℕ) (n : ℕ) (text : List ℕ) {x : ℕ} → keys.schedule ≡ key_expansion key
    → x ≡ number (window iv 0 16) → length iv ≡ 16 → ctr_over keys x n text ≡ ctr_from key iv n text
over_loaded keys key iv n text e ex h =
    ap (λ (y : ℕ). ctr_over keys y n text) (ex ∙ number_iv iv h) ∙ over_from keys key iv n text e
