-- The bits of shifts, of delta swaps and of rotations. Assumes nothing.
use mathlib.Core.Path.{◌≡◌, refl, sym, ap, ap₂, ◌∙◌}
use mathlib.Core.Bool.{Bool, true, false}
use Prim.Native.Nat.{ℕ, zero, suc, ◌+◌, ◌-◌, ◌*◌, ◌/◌, ◌%◌, ◌^◌, ◌<◌, ◌≤◌}
use native.Mathlib.Nat.{mod-lt, mod-eq_of_lt, div-eq_of_lt, mul_assoc, lt_of_lt_of_le}
use native.Mathlib.Omega.{arith}
use borrow.Author.Tests.{ltb-true, ltb-false}
use lib.Dec.{ltb}
use Rattle.std.specs.Int.{w64, rotate_right}
use lib.Pow.{pow-add, pow_pos, pow_mono, shr-shr, shl-shr, field, mod-mod-pow}
use lib.Bits.{bit_xor, bit_and, bit_or, or_shr, or_mod, and_zero_r, xor_zero_r, or_zero_r, or_zero_l, shifted_even}
use Rattle.circuit.specs.Bits.{bit_of}
use Rattle.circuit.proofs.Laws.{xor-bit, and_bit, bit_lt}
use Rattle.swaps.specs.Swaps.{delta, swap_a, swap_b, right, SwapLaws}

or_bit : (i a b : ℕ) → bit_of i (bit_or a b) ≡ bit_or (bit_of i a) (bit_of i b)
unfolding bit_of
or_bit i a b = ap (λ (n : ℕ). n % 2) (or_shr a b i) ∙ or_mod (a / 2 ^ i) (b / 2 ^ i) 1

-- A shift to the right.
pub shr_bit : (h i w : ℕ) → bit_of i (w / 2 ^ h) ≡ bit_of (h + i) w
unfolding bit_of
shr_bit h i w = ap (λ (n : ℕ). n % 2) (shr-shr w h i)

-- A number cut to a width keeps the bits below it.
pub cut_bit : (j k n : ℕ) → bit_of k (n % 2 ^ (j + 1 + k)) ≡ bit_of k n
unfolding bit_of
cut_bit j k n = ap (λ (x : ℕ). x % 2) (field n (j + 1) k) ∙ mod-mod-pow (n / 2 ^ k) j 1

cut_64 : (k n : ℕ) → k < 64 → bit_of k (n % 2 ^ 64) ≡ bit_of k n
cut_64 k n l =
    let e : 64 ≡ 63 - k + 1 + k = omega arith in
    ap (λ (w : ℕ). bit_of k (n % 2 ^ w)) e ∙ cut_bit (63 - k) k n

-- Past its width a number has no bit.
past : (i x : ℕ) → x < 2 ^ i → bit_of i x ≡ 0
unfolding bit_of
past i x l = ap (λ (n : ℕ). n % 2) (div-eq_of_lt l)

-- A shift to the left.
shl_bit : (h i w : ℕ) → h + i < 64 → bit_of (h + i) (w * 2 ^ h % 2 ^ 64) ≡ bit_of i w
shl_bit h i w l = cut_64 (h + i) (w * 2 ^ h) l ∙ sym (shr_bit h i (w * 2 ^ h)) ∙ ap (bit_of i) (shl-shr w h)

even_bit : (d i w : ℕ) → bit_of i (w * 2 ^ (suc d + i)) ≡ 0
unfolding bit_of
even_bit d i w =
    ap (λ (n : ℕ). w * n / 2 ^ i % 2) (pow-add 2 (suc d) i)
    ∙ ap (λ (n : ℕ). n / 2 ^ i % 2) (sym (mul_assoc w (2 ^ suc d) (2 ^ i)))
    ∙ ap (λ (n : ℕ). n % 2) (shl-shr (w * 2 ^ suc d) i) ∙ shifted_even w d

shl_low : (h i w : ℕ) → i < h → h ≤ 64 → bit_of i (w * 2 ^ h % 2 ^ 64) ≡ 0
shl_low h i w l k =
    let e : h ≡ suc (h - 1 - i) + i = omega arith in
    cut_64 i (w * 2 ^ h) (omega arith) ∙ ap (λ (n : ℕ). bit_of i (w * 2 ^ n)) e ∙ even_bit (h - 1 - i) i w

-- What holds of 0 and 1 holds of a bit.
on_bit : (P : ℕ → Type 0) → P 0 → P 1 → (x : ℕ) → x < 2 → P x
on_bit P p q zero l = p
on_bit P p q (suc zero) l = q
on_bit P p q (suc (suc x)) l = absurd (omega arith)

-- Two bits a and b change place.
swapped : (a b : ℕ) → a < 2 → b < 2 → bit_xor b (bit_and (bit_xor a b) 1) ≡ a
swapped a b p q =
    on_bit (λ (y : ℕ). bit_xor y (bit_and (bit_xor a y) 1) ≡ a)
    (on_bit (λ (x : ℕ). bit_xor 0 (bit_and (bit_xor x 0) 1) ≡ x) refl refl a p)
    (on_bit (λ (x : ℕ). bit_xor 1 (bit_and (bit_xor x 1) 1) ≡ x) refl refl a p) b q

swapped_back : (a b : ℕ) → a < 2 → b < 2 → bit_xor a (bit_and (bit_xor a b) 1) ≡ b
swapped_back a b p q =
    on_bit (λ (x : ℕ). bit_xor x (bit_and (bit_xor x b) 1) ≡ b)
    (on_bit (λ (y : ℕ). bit_xor 0 (bit_and (bit_xor 0 y) 1) ≡ y) refl refl b q)
    (on_bit (λ (y : ℕ). bit_xor 1 (bit_and (bit_xor 1 y) 1) ≡ y) refl refl b q) a p

module _ (h m a b i : ℕ) where
  -- Bit i of the difference, where n is bit i of the mask.
  delta_bit : (n : ℕ) → bit_of i m ≡ n → bit_of i (delta h m a b) ≡ bit_and (bit_xor (bit_of (h + i) a) (bit_of i b)) n
  unfolding delta
  delta_bit n e =
      and_bit i (bit_xor (a / 2 ^ h) b) m
      ∙ ap₂ bit_and (xor-bit i (a / 2 ^ h) b ∙ ap (λ (x : ℕ). bit_xor x (bit_of i b)) (shr_bit h i a)) e

  b_bit : (n : ℕ) → bit_of i m ≡ n → bit_of i (swap_b h m a b) ≡ bit_xor (bit_of i b) (bit_and (bit_xor (bit_of (h + i) a) (bit_of i b)) n)
  unfolding swap_b
  b_bit n e = xor-bit i b (delta h m a b) ∙ ap (bit_xor (bit_of i b)) (delta_bit n e)

  a_bit : (n : ℕ) → h + i < 64 → bit_of i m ≡ n
      → bit_of (h + i) (swap_a h m a b) ≡ bit_xor (bit_of (h + i) a) (bit_and (bit_xor (bit_of (h + i) a) (bit_of i b)) n)
  unfolding swap_a
  a_bit n l e =
      xor-bit (h + i) a (delta h m a b * 2 ^ h % 2 ^ 64)
      ∙ ap (bit_xor (bit_of (h + i) a)) (shl_bit h i (delta h m a b) l ∙ delta_bit n e)

  a_low : i < h → h ≤ 64 → bit_of i (swap_a h m a b) ≡ bit_of i a
  unfolding swap_a
  a_low l k =
      xor-bit i a (delta h m a b * 2 ^ h % 2 ^ 64) ∙ ap (bit_xor (bit_of i a)) (shl_low h i (delta h m a b) l k)
      ∙ xor_zero_r (bit_of i a)

-- A bit that is summed with none of a difference.
none : (x y : ℕ) → bit_xor x (bit_and y 0) ≡ x
none x y = ap (bit_xor x) (and_zero_r y) ∙ xor_zero_r x

-- The two words of a rotation, where the bit comes from the first and where from the second.
turned_by : (k x i : ℕ) → k ≤ 64 → i < 64 → (t : Bool) → ltb (i + k) 64 ≡ t → bit_of i (right k x) ≡ bit_of ((i + k) % 64) x
unfolding right
turned_by k x i l b true e =
    let s : i + k < 64 = ltb-true (i + k) 64 e in
    let n : (i + k) % 64 ≡ k + i = omega arith in
    or_bit i (x % 2 ^ 64 / 2 ^ k) (x * 2 ^ (64 - k) % 2 ^ 64)
    ∙ ap₂ bit_or (shr_bit k i (x % 2 ^ 64) ∙ cut_64 (k + i) x (omega arith)) (shl_low (64 - k) i x (omega arith) (omega arith))
    ∙ or_zero_r (bit_of (k + i) x) ∙ ap (λ (j : ℕ). bit_of j x) (sym n)
turned_by k x i l b false e =
    let s : 64 ≤ i + k = ltb-false (i + k) 64 e in
    let n : (i + k) % 64 ≡ i + k - 64 = omega arith in
    let p : i ≡ 64 - k + (i + k - 64) = omega arith in
    let z : x % 2 ^ 64 < 2 ^ (k + i) = lt_of_lt_of_le (mod-lt x (pow_pos 64)) (pow_mono {i = 64} {j = k + i} (omega arith)) in
    or_bit i (x % 2 ^ 64 / 2 ^ k) (x * 2 ^ (64 - k) % 2 ^ 64)
    ∙ ap₂ bit_or
    (shr_bit k i (x % 2 ^ 64) ∙ past (k + i) (x % 2 ^ 64) z)
    (ap (λ (j : ℕ). bit_of j (x * 2 ^ (64 - k) % 2 ^ 64)) p ∙ shl_bit (64 - k) (i + k - 64) x (omega arith))
    ∙ or_zero_l (bit_of (i + k - 64) x) ∙ ap (λ (j : ℕ). bit_of j x) (sym n)

-- A rotation of a word of 64 bits by the library's method.
pub rotated : (k x : ℕ) → 0 < k → k < 64 → x < 2 ^ 64 → rotate_right w64 x k ≡ right k x
unfolding right
rotated k x some few l =
    let d : k % 64 ≡ k = omega arith in
    let e : (64 - k) % 64 ≡ 64 - k = omega arith in
    rw (d, e, mod-eq_of_lt l)

pub laws : SwapLaws
laws =
    record {
      b_moved = λ h m a b i e. b_bit h m a b i 1 e ∙ swapped (bit_of (h + i) a) (bit_of i b) (bit_lt (h + i) a) (bit_lt i b);
      b_stays = λ h m a b i e. b_bit h m a b i 0 e ∙ none (bit_of i b) (bit_xor (bit_of (h + i) a) (bit_of i b));
      a_moved =
          λ h m a b i l e. a_bit h m a b i 1 l e ∙ swapped_back (bit_of (h + i) a) (bit_of i b) (bit_lt (h + i) a) (bit_lt i b);
      a_stays = λ h m a b i l e. a_bit h m a b i 0 l e ∙ none (bit_of (h + i) a) (bit_xor (bit_of (h + i) a) (bit_of i b));
      a_low = a_low;
      turned = λ k x i l b. turned_by k x i l b (ltb (i + k) 64) refl;
    }
