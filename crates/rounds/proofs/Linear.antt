-- XTIMES is linear on bytes, and what a byte of MIXCOLUMNS is by it. Assumes nothing.
use Prim.Native.Nat.{ℕ, zero, suc, ◌+◌, ◌*◌, ◌/◌, ◌%◌, ◌<◌}
use mathlib.Core.Path.{◌≡◌, refl, sym, ap, ap₂, ◌∙◌}
use native.Mathlib.Omega.{arith}
use lib.Bits.{bit_xor, xor_comm, xor_zero_r, xor_assoc, xor_shr, xor_mod, xor_block}
use Rattle.field.specs.Field.{xtimes, times_bits, times}
use Rattle.rounds.specs.State.{mix_byte}

-- ---- the products by 02 and 03

pub times_2 : (b : ℕ) → times 2 b ≡ xtimes b
unfolding times times_bits
times_2 b = xor_zero_r (xtimes b)

pub times_3 : (b : ℕ) → times 3 b ≡ bit_xor b (xtimes b)
unfolding times times_bits
times_3 b = ap (bit_xor b) (xor_zero_r (xtimes b))

-- The sum of two sums, in another order.
xor_middle : (p q r s : ℕ) → bit_xor (bit_xor p q) (bit_xor r s) ≡ bit_xor (bit_xor p r) (bit_xor q s)
xor_middle p q r s =
    xor_assoc p q (bit_xor r s)
    ∙ ap (bit_xor p) (sym (xor_assoc q r s) ∙ ap (λ (u : ℕ). bit_xor u s) (xor_comm q r) ∙ xor_assoc r q s)
    ∙ sym (xor_assoc p r (bit_xor q s))

bit_27 : (x y : ℕ) → x < 2 → y < 2 → bit_xor x y * 27 ≡ bit_xor (x * 27) (y * 27)
bit_27 zero zero h k = refl
bit_27 zero (suc zero) h k = refl
bit_27 (suc zero) zero h k = refl
bit_27 (suc zero) (suc zero) h k = refl
bit_27 zero (suc (suc y)) h k = absurd (omega arith)
bit_27 (suc zero) (suc (suc y)) h k = absurd (omega arith)
bit_27 (suc (suc x)) y h k = absurd (omega arith)

xor_double : (a b : ℕ) → bit_xor a b * 2 ≡ bit_xor (a * 2) (b * 2)
xor_double a b =
    let e : a * 2 + 0 ≡ a * 2 = omega arith in
    let f : b * 2 + 0 ≡ b * 2 = omega arith in
    let g : bit_xor a b * 2 ≡ bit_xor a b * 2 + 0 = omega arith in
    g ∙ sym (xor_block 1 a b 0 0 (omega arith) (omega arith)) ∙ ap₂ bit_xor e f

-- XTIMES of a sum is the sum of both.
pub xtimes-sum : (a b : ℕ) → a < 256 → b < 256 → xtimes (bit_xor a b) ≡ bit_xor (xtimes a) (xtimes b)
unfolding xtimes
xtimes-sum a b h k =
    ap₂ bit_xor
    (ap (λ (u : ℕ). u * 27) (xor_shr a b 7) ∙ bit_27 (a / 128) (b / 128) (omega arith) (omega arith))
    (ap (λ (u : ℕ). u % 256) (xor_double a b) ∙ xor_mod (a * 2) (b * 2) 8)
    ∙ xor_middle (a / 128 * 27) (b / 128 * 27) (a * 2 % 256) (b * 2 % 256)

-- A byte of MIXCOLUMNS with one product, z: that of the sum of its own byte and the next.
pub mix_product : (a b c d : ℕ) {z : ℕ} → a < 256 → b < 256 → z ≡ xtimes (bit_xor a b) → bit_xor (bit_xor z b) (bit_xor c d) ≡ mix_byte a b c d
unfolding mix_byte
mix_product a b c d h k e =
    let x = xtimes a in
    let y = xtimes b in
    ap (λ (u : ℕ). bit_xor (bit_xor u b) (bit_xor c d)) (e ∙ xtimes-sum a b h k)
    ∙ sym (xor_assoc (bit_xor (bit_xor x y) b) c d)
    ∙ ap (λ (u : ℕ). bit_xor (bit_xor u c) d)
    (xor_assoc x y b ∙ ap (bit_xor x) (xor_comm y b) ∙ sym (ap₂ bit_xor (times_2 a) (times_3 b)))
