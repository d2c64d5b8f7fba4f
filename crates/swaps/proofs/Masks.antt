-- The lowest bits of four equal parts of a word, taken out by a mask. Assumes nothing.
use mathlib.Core.Path.{◌≡◌, sym, ap, ap₂, ◌∙◌}
use Prim.Native.Nat.{ℕ, ◌+◌, ◌*◌, ◌/◌, ◌%◌, ◌^◌, ◌<◌}
use native.Mathlib.Nat.{mod-lt, div-one, add-zero}
use native.Mathlib.Omega.{arith}
use lib.Pow.{pow_pos, pow-lt, split, shr-shr, mod-mod-pow}
use lib.Bits.{bit_and, and_block, and_mask}
use Rattle.circuit.specs.Bits.{bit_of}
use Rattle.swaps.proofs.Laws.{shr_bit}

module _ (k : ℕ) where
  -- The width of a part of a word.
  abbrev width : ℕ
  width = k + 1

  -- The lowest bit of a word, apart from those of its other parts.
  mask_step : (x m : ℕ) → bit_and x (m * 2 ^ width + 1) ≡ bit_and (x / 2 ^ width) m * 2 ^ width + bit_of 0 x
  unfolding bit_of
  mask_step x m =
      let small : x % 2 ^ width < 2 ^ width = mod-lt x (pow_pos width) in
      let one : 1 < 2 ^ width = pow-lt {i = 0} {j = width} (omega arith) in
      ap (λ (n : ℕ). bit_and n (m * 2 ^ width + 1)) (sym (split x width))
      ∙ and_block width (x / 2 ^ width) m (x % 2 ^ width) 1 small one
      ∙ ap (λ (n : ℕ). bit_and (x / 2 ^ width) m * 2 ^ width + n)
      (and_mask (x % 2 ^ width) 1 ∙ mod-mod-pow x k 1 ∙ ap (λ (n : ℕ). n % 2) (sym (div-one x)))

  lowest : (x : ℕ) → bit_and x 1 ≡ bit_of 0 x
  unfolding bit_of
  lowest x = and_mask x 1 ∙ ap (λ (n : ℕ). n % 2) (sym (div-one x))

  moved : (i x : ℕ) → bit_of 0 (x / 2 ^ i) ≡ bit_of i x
  moved i x = shr_bit i 0 x ∙ ap (λ (j : ℕ). bit_of j x) (add-zero i)

  -- The lowest bits of four parts of a word.
  pub masked : (x : ℕ) → bit_and x (((1 * 2 ^ width + 1) * 2 ^ width + 1) * 2 ^ width + 1)
      ≡ ((bit_of (width + width + width) x * 2 ^ width + bit_of (width + width) x) * 2 ^ width + bit_of width x) * 2 ^ width + bit_of 0 x
  masked x =
      let x₁ = x / 2 ^ width in
      let x₂ = x₁ / 2 ^ width in
      let x₃ = x₂ / 2 ^ width in
      let e₂ = shr-shr x width width in
      let e₃ = ap (λ (n : ℕ). n / 2 ^ width) e₂ ∙ shr-shr x (width + width) width in
      mask_step x _
      ∙ ap (λ (n : ℕ). n * 2 ^ width + bit_of 0 x)
      (mask_step x₁ _
      ∙ ap₂ (λ (m n : ℕ). m * 2 ^ width + n)
      (mask_step x₂ 1
      ∙ ap₂ (λ (m n : ℕ). m * 2 ^ width + n) (lowest x₃ ∙ ap (bit_of 0) e₃ ∙ moved (width + width + width) x)
      (ap (bit_of 0) e₂ ∙ moved (width + width) x))
      (moved width x))
