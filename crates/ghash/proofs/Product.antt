-- The steps of the product on two halves of 64 bits. Assumes nothing.
use Rattle.std.proofs.Common.{◌≡◌, ℕ, zero, suc, ◌+◌, ◌-◌, ◌*◌, ◌/◌, ◌%◌, ◌^◌, ◌<◌, ◌≤◌, sym, ap, ◌∙◌, ap₂, mod-lt, mod-eq_of_lt, one-mul, zero-mul, arith, pow_pos, shr-shr}
use lib.Bits.{bit_and, bit_or, bit_xor, and_zero_r, and_comm, and_mask, xor_zero_r, xor_block, or_shifted_r}
use lib.Pow.{high, low, field, mod-mod-pow}
use Rattle.ghash.specs.Product.{pick_bit, R, bit, next, steps}

-- The number of two halves.
abbrev pub joined : ℕ → ℕ → ℕ
joined hi lo = hi * 2 ^ 64 + lo

-- E1 in the top byte of a half.
abbrev pub E1 : ℕ
E1 = 0xE100_0000_0000_0000

E1-< : E1 < 2 ^ 64
E1-< = omega arith

-- ---- masks

-- Under the mask of a bit a half is itself or 0.
mask_and : (a b : ℕ) → a < 2 ^ 64 → b < 2 → bit_and a (b * (2 ^ 64 - 1)) ≡ b * a
mask_and a zero h k = and_zero_r a ∙ sym (zero-mul a)
mask_and a (suc zero) h k = and_mask a 64 ∙ mod-eq_of_lt h ∙ sym (one-mul a)
mask_and a (suc (suc b)) h k = absurd (omega arith)

-- Z, or Z + V, by halves under the mask of a bit.
pub add_masked : (zh zl vh vl b m : ℕ) → zl < 2 ^ 64 → vh < 2 ^ 64 → vl < 2 ^ 64 → b < 2 → m ≡ b * (2 ^ 64 - 1)
    → joined (bit_xor zh (bit_and vh m)) (bit_xor zl (bit_and vl m)) ≡ pick_bit b (joined zh zl) (bit_xor (joined zh zl) (joined vh vl))
add_masked zh zl vh vl b m zl< vh< vl< b< e =
    ap (λ (x : ℕ). joined (bit_xor zh (bit_and vh x)) (bit_xor zl (bit_and vl x))) e
    ∙ ap₂ (λ (x y : ℕ). joined (bit_xor zh x) (bit_xor zl y)) (mask_and vh b vh< b<) (mask_and vl b vl< b<)
    ∙ by_bit b b<
  where
    by_bit : (b : ℕ) → b < 2
        → joined (bit_xor zh (b * vh)) (bit_xor zl (b * vl)) ≡ pick_bit b (joined zh zl) (bit_xor (joined zh zl) (joined vh vl))
    by_bit zero k =
        ap₂ (λ (x y : ℕ). joined (bit_xor zh x) (bit_xor zl y)) (zero-mul vh) (zero-mul vl) ∙ ap₂ joined (xor_zero_r zh) (xor_zero_r zl)
    by_bit (suc zero) k =
        ap₂ (λ (x y : ℕ). joined (bit_xor zh x) (bit_xor zl y)) (one-mul vh) (one-mul vl) ∙ sym (xor_block 64 zh vh zl vl zl< vl<)
    by_bit (suc (suc b)) k = absurd (omega arith)

module _ (hi lo : ℕ) (lo< : lo < 2 ^ 64) where
  -- ---- V, shifted and folded

  -- The low half with the bit carried from the high one.
  abbrev shifted_lo : ℕ
  shifted_lo = (hi % 2) * 2 ^ 63 + lo / 2

  carry_lo : bit_or (lo / 2) (hi * 2 ^ 63 % 2 ^ 64) ≡ shifted_lo
  carry_lo =
      let e : hi * 2 ^ 63 % 2 ^ 64 ≡ (hi % 2) * 2 ^ 63 = omega arith in
      ap (bit_or (lo / 2)) e ∙ or_shifted_r (hi % 2) 63 (lo / 2) (omega arith)

  shift_joined : joined hi lo / 2 ≡ joined (hi / 2) shifted_lo
  shift_joined = omega arith

  fold_bit : (b : ℕ) → b < 2 → joined (bit_xor (hi / 2) (b * E1)) shifted_lo ≡ pick_bit b (joined hi lo / 2) (bit_xor (joined hi lo / 2) R)
  fold_bit zero k = ap (λ (x : ℕ). joined x shifted_lo) (xor_zero_r (hi / 2)) ∙ sym shift_joined
  fold_bit (suc zero) k =
      sym
      (ap (λ (x : ℕ). bit_xor x R) shift_joined
      ∙ xor_block 64 (hi / 2) E1 shifted_lo 0 (omega arith) (pow_pos 64)
      ∙ ap (λ (x : ℕ). joined (bit_xor (hi / 2) E1) x) (xor_zero_r shifted_lo))
  fold_bit (suc (suc b)) k = absurd (omega arith)

  -- One step of V, from the mask of its lowest bit.
  pub next_halves : (m : ℕ) → m ≡ bit_and lo 1 * (2 ^ 64 - 1)
      → joined (bit_xor (hi / 2) (bit_and m E1)) (bit_or (lo / 2) (hi * 2 ^ 63 % 2 ^ 64)) ≡ next (joined hi lo)
  unfolding next
  next_halves m e =
      let b : lo % 2 ≡ joined hi lo % 2 = omega arith in
      let lowest = e ∙ ap (λ (x : ℕ). x * (2 ^ 64 - 1)) (and_mask lo 1) in
      ap₂ (λ (x y : ℕ). joined (bit_xor (hi / 2) x) y)
      (and_comm m E1 ∙ ap (bit_and E1) lowest ∙ mask_and E1 (lo % 2) E1-< (mod-lt lo (pow_pos 1)))
      carry_lo
      ∙ fold_bit (lo % 2) (mod-lt lo (pow_pos 1))
      ∙ ap (λ (x : ℕ). pick_bit x (joined hi lo / 2) (bit_xor (joined hi lo / 2) R)) b

  -- ---- bit i, from the half that holds it

  pub bit_hi : (i : ℕ) → i < 64 → bit_and (hi / 2 ^ (63 - i)) 1 ≡ bit (joined hi lo) i
  unfolding bit
  bit_hi i h =
      let e : 64 + (63 - i) ≡ 127 - i = omega arith in
      and_mask (hi / 2 ^ (63 - i)) 1
      ∙ ap (λ (x : ℕ). x / 2 ^ (63 - i) % 2) (sym (high hi 64 lo<))
      ∙ ap (λ (x : ℕ). x % 2) (shr-shr (joined hi lo) 64 (63 - i))
      ∙ ap (λ (k : ℕ). joined hi lo / 2 ^ k % 2) e

  pub bit_lo : (i : ℕ) → 64 ≤ i → i < 128 → bit_and (lo / 2 ^ (127 - i)) 1 ≡ bit (joined hi lo) i
  unfolding bit
  bit_lo i l h =
      let n : ℕ = joined hi lo in
      let k : ℕ = 127 - i in
      let e : 64 ≡ i - 64 + 1 + k = omega arith in
      and_mask (lo / 2 ^ k) 1
      ∙ ap (λ (x : ℕ). x / 2 ^ k % 2) (sym (low hi 64 lo<))
      ∙ ap (λ (j : ℕ). n % 2 ^ j / 2 ^ k % 2) e
      ∙ ap (λ (x : ℕ). x % 2) (field n (i - 64 + 1) k)
      ∙ mod-mod-pow (n / 2 ^ k) (i - 64) 1

pub bit-< : (x i : ℕ) → bit x i < 2
unfolding bit
bit-< x i = mod-lt (x / 2 ^ (127 - i)) (pow_pos 1)

-- ---- the loop

-- A turn: one step less is left.
pub steps_turn : (x i m n z v : ℕ) {b z' v' : ℕ} → m ≡ suc n → b ≡ bit x i → z' ≡ pick_bit b z (bit_xor z v) → v' ≡ next v
    → steps n (i + 1) x z' v' ≡ steps m i x z v
unfolding steps
steps_turn x i m n z v em eb ez ev =
    ap₂ (steps n (i + 1) x) (ez ∙ ap (λ (b : ℕ). pick_bit b z (bit_xor z v)) eb) ev ∙ ap (λ (k : ℕ). steps k i x z v) (sym em)

pub steps_done : (x i m z v : ℕ) → m ≡ 0 → z ≡ steps m i x z v
unfolding steps
steps_done x i m z v e = ap (λ (k : ℕ). steps k i x z v) (sym e)
