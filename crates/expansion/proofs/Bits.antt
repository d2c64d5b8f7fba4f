-- The four bytes of a word across eight words: how they are put there, read back and looked up. Assumes nothing.
use mathlib.Core.Path.{◌≡◌, sym, ap, ◌∙◌}
use mathlib.Core.List.{List, [], ◌∷◌}
use Prim.Native.Nat.{ℕ, ◌+◌, ◌*◌, ◌/◌, ◌%◌, ◌^◌, ◌<◌}
use native.Mathlib.Nat.{add_comm}
use native.Mathlib.Omega.{arith}
use lib.ListN.{length}
use lib.Bits.{bit_and}
use Rattle.field.specs.Sbox.{sbox}
use Rattle.rounds.specs.State.{sub_word}
use Rattle.rounds.proofs.Words.{four_equal}
use Rattle.circuit.specs.Bits.{bit_of, bits_of, byte_of}
use Rattle.circuit.specs.Circuit.{sub_words}
use Rattle.circuit.proofs.Laws.{byte_lt, eight, sub_byte}
use Rattle.swaps.proofs.Masks.{masked}
use Rattle.swaps.proofs.Laws.{shr_bit}
use Rattle.packing.proofs.Laws.{byte_spread}
use Rattle.lanes.specs.Lanes.{row_at, sub_rows}
use Rattle.lanes.proofs.Laws.{laws}
use Rattle.expansion.specs.Words.{word_bytes, Word, Picked, shifted, low_bytes}
use Rattle.expansion.proofs.Numbers.{same_word, byte_word}

-- The lowest bits of four bytes.
lowest_bits : (x : ℕ) → bit_and x 0x01010101 ≡ ((bit_of 24 x * 256 + bit_of 16 x) * 256 + bit_of 8 x) * 256 + bit_of 0 x
lowest_bits = masked 7

-- The byte at bit k of a number shifted by 0 to 7 places.
shifted_byte : (k n : ℕ) → byte_of (bits_of k (shifted n)) ≡ n / 2 ^ k % 256
unfolding shifted
shifted_byte k n =
    let b : (j : ℕ) → bit_of k (n / 2 ^ j) ≡ bit_of j (n / 2 ^ k) =
    λ j. shr_bit j k n ∙ ap (λ (i : ℕ). bit_of i n) (add_comm j k) ∙ sym (shr_bit k j n) in
    ap byte_of (eight (ap (λ (i : ℕ). bit_of i n) (omega arith) ∙ sym (shr_bit k 0 n)) (b 1) (b 2) (b 3) (b 4) (b 5) (b 6) (b 7)) ∙ byte_spread (n / 2 ^ k)

-- A byte whose bits stand in eight words is looked up.
looked_up : (k n : ℕ) → k < 64 → byte_of (bits_of k (sub_words (shifted n))) ≡ sbox (n / 2 ^ k % 256)
looked_up k n h = sub_byte (shifted n) k h ∙ ap sbox (shifted_byte k n)

-- SUBWORD of a word in eight words.
sub_bytes_lem : (n : ℕ) → low_bytes (sub_words (shifted n)) ≡ sub_word (word_bytes n)
unfolding low_bytes word_bytes
sub_bytes_lem n =
    let one : n / 2 ^ 0 ≡ n = omega arith in
    four_equal (looked_up 24 n (omega arith)) (looked_up 16 n (omega arith)) (looked_up 8 n (omega arith))
    (looked_up 0 n (omega arith) ∙ ap (λ (m : ℕ). sbox (m % 256)) one)

-- The sum of the lowest bits of eight words.
pub gathered : {a b c d e f g h a' b' c' d' e' f' g' h' : ℕ} → Picked a a' → Picked b b' → Picked c c' → Picked d d' → Picked e e' → Picked f f'
    → Picked g g' → Picked h h'
    → Word (a' + b' * 2 + c' * 4 + d' * 8 + e' * 16 + f' * 32 + g' * 64 + h' * 128) (low_bytes (a ∷ b ∷ c ∷ d ∷ e ∷ f ∷ g ∷ h ∷ []))
unfolding low_bytes byte_of
gathered {a} {b} {c} {d} {e} {f} {g} {h} {a'} {b'} {c'} {d'} {e'} {f'} {g'} {h'} p q r s t u v w =
    let x = a ∷ b ∷ c ∷ d ∷ e ∷ f ∷ g ∷ h ∷ [] in
    let n : a' + b' * 2 + c' * 4 + d' * 8 + e' * 16 + f' * 32 + g' * 64 + h' * 128
    ≡ ((byte_of (bits_of 24 x) * 256 + byte_of (bits_of 16 x)) * 256 + byte_of (bits_of 8 x)) * 256 + byte_of (bits_of 0 x) =
    omega (
      arith,
      p.value ∙ lowest_bits a,
      q.value ∙ lowest_bits b,
      r.value ∙ lowest_bits c,
      s.value ∙ lowest_bits d,
      t.value ∙ lowest_bits e,
      u.value ∙ lowest_bits f,
      v.value ∙ lowest_bits g,
      w.value ∙ lowest_bits h,
    ) in
    rw n (byte_word _ _ _ _ (byte_lt 24 x) (byte_lt 16 x) (byte_lt 8 x) (byte_lt 0 x))

-- The word is put into the first row, looked up there and read back.
pub looked_up_word : (n : ℕ) (s t : List ℕ) {r : ℕ} → length s ≡ 512 → row_at s 0 ≡ shifted n → t ≡ sub_rows 1 1 s → Word r (low_bytes (row_at t 0))
    → Word r (sub_word (word_bytes n))
looked_up_word n s t e p q w =
    same_word w (ap (λ (x : List ℕ). low_bytes (row_at x 0)) q ∙ ap low_bytes (laws.sub_first s e ∙ ap sub_words p) ∙ sub_bytes_lem n)
