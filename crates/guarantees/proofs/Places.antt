-- Slices, IVs and blocks that lie apart. Assumes nothing.
use Prim.Native.Nat.{ℕ, zero, suc, ◌+◌, ◌*◌, ◌≤◌, ◌<◌}
use mathlib.Core.Path.{◌≡◌, ap}
use mathlib.Core.List.{List}
use mathlib.Core.Logic.{◌⊎◌, inl, inr, ⊎_elim}
use native.Mathlib.Omega.{arith}
use native.Mathlib.Nat.{mul-le-mul_right, mul-le-mul_left}
use lib.ListN.{length}
use Rattle.model.specs.declared.Geometry.{Geometry}
use Rattle.model.specs.Parts.{part, overlay}
use Rattle.model.specs.Geometry.{slice_size, slice_start, iv_start, block_start, Allowed}
use Rattle.model.proofs.Parts.{overlay_before, overlay_after}
use Rattle.model.proofs.Bounds.{iv_within, block_within, iv_within_slice}
use Rattle.model.proofs.Tests.{three}

-- Two ranges with no place in common.
abbrev pub Apart : (a n at len : ℕ) → Type 0
Apart a n at len = (a + n ≤ at) ⊎ (at + len ≤ a)

-- A part apart from the new elements, of which there are len.
pub overlay-apart {ℓ} : {A : Type ℓ} (s : List A) (at : ℕ) (d : List A) (a n len : ℕ) → length d ≡ len → Apart a n at len
    → part a n (overlay s at d) ≡ part a n s
overlay-apart s at d a n len e = ⊎_elim (λ l. overlay_before s at d a n l) (λ l. overlay_after s at d a n (omega arith))

module _ (g : Geometry) where
  slices_apart : {ψ φ : ℕ} → ψ < φ → slice_start g ψ + slice_size g ≤ slice_start g φ
  unfolding slice_start slice_size
  slices_apart {ψ} {φ} l = omega (arith, mul-le-mul_left g.b (mul-le-mul_right (g.s + 1) l))

  pub slice_first : (ψ : ℕ) → slice_start g 0 ≤ slice_start g ψ
  slice_first zero = omega arith
  slice_first (suc ψ) = let l : 0 < suc ψ = omega arith in omega (arith, slices_apart l)

  blocks_apart : {j n : ℕ} → j < n → g.b * (1 + j) + g.b ≤ g.b * (1 + n)
  blocks_apart {j} {n} l = omega (arith, mul-le-mul_left g.b l)

  -- What lies within two slices is apart where the slices differ, and else where it is apart within the slice.
  pub apart : (ψ φ x u y v : ℕ) → x + u ≤ slice_size g → y + v ≤ slice_size g → (ψ ≡ φ → Apart x u y v)
      → Apart (slice_start g ψ + x) u (slice_start g φ + y) v
  apart ψ φ x u y v hx hy within =
      ⊎_elim (λ l. inl (omega (arith, slices_apart l)))
      (⊎_elim (λ e. ⊎_elim (λ k. inl (omega (arith, ap (slice_start g) e))) (λ k. inr (omega (arith, ap (slice_start g) e))) (within e))
      (λ l. inr (omega (arith, slices_apart l))))
      (three ψ φ)

  module _ (ok : Allowed g) (ψ φ j n : ℕ) (hj : j < g.s) (hn : n < g.s) where
    pub iv_iv : (ψ ≡ φ → j ≡ n → ⊥) → Apart (iv_start g ψ j) 16 (iv_start g φ n) 16
    unfolding iv_start
    iv_iv ne =
        apart ψ φ (16 * j) 16 (16 * n) 16 (iv_within_slice g ok j hj) (iv_within_slice g ok n hn)
        (λ e. ⊎_elim (λ l. inl (omega arith)) (⊎_elim (λ q. absurd (ne e q)) (λ l. inr (omega arith))) (three j n))

    pub iv_block : Apart (iv_start g ψ j) 16 (block_start g φ n) g.b
    unfolding iv_start block_start
    iv_block =
        apart ψ φ (16 * j) 16 (g.b * (1 + n)) g.b (iv_within_slice g ok j hj) (block_within g ok n hn)
        (λ e. inl (omega (arith, iv_within g ok j hj)))

    pub block_iv : Apart (block_start g ψ j) g.b (iv_start g φ n) 16
    unfolding iv_start block_start
    block_iv =
        apart ψ φ (g.b * (1 + j)) g.b (16 * n) 16 (block_within g ok j hj) (iv_within_slice g ok n hn)
        (λ e. inr (omega (arith, iv_within g ok n hn)))

    pub block_block : (ψ ≡ φ → j ≡ n → ⊥) → Apart (block_start g ψ j) g.b (block_start g φ n) g.b
    unfolding block_start
    block_block ne =
        apart ψ φ (g.b * (1 + j)) g.b (g.b * (1 + n)) g.b (block_within g ok j hj) (block_within g ok n hn)
        (λ e. ⊎_elim (λ l. inl (blocks_apart l)) (⊎_elim (λ q. absurd (ne e q)) (λ l. inr (blocks_apart l))) (three j n))
