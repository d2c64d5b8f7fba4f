-- Laws of a slice that is claimed: what each data block holds, and its place; and what a claim stores. Assumes nothing.
use Prim.Native.Nat.{ℕ, ◌+◌, ◌-◌, ◌*◌, ◌≤◌, ◌<◌}
use mathlib.Core.Path.{◌≡◌, refl}
use mathlib.Core.List.{List}
use native.Mathlib.Nat.{zero-add}
use native.Mathlib.Omega.{arith}
use lib.ListN.{length, replicate, take, drop, length-drop}
use lib.Seq.{take-length}
use borrow.Author.Tests.{eq-eqb, ne_eqb}
use Rattle.ctr_spec.specs.CounterMode.{ctr}
use Rattle.model.specs.declared.Geometry.{Geometry}
use Rattle.model.specs.Parts.{part, overlay}
use Rattle.model.specs.Geometry.{Allowed, device_length, map_block_start, slice_start, block_start}
use Rattle.model.specs.Maps.{map_block}
use Rattle.model.specs.Write.{claimed_bytes, claim_need}
use Rattle.model.proofs.Parts.{part_lent}
use Rattle.model.proofs.Bounds.{block_fits}
use Rattle.model.proofs.Blocks.{claimed_block}

module _ (b : ℕ) (key ivs : List ℕ) (j : ℕ) (text : List ℕ) where
  -- Under its IV, which is lent, block j is the text and any other is zeros.
  pub claimed_block_text : (n : ℕ) → n ≡ j → ctr key (part (16 * n) (16 * n + 16 - 16 * n) ivs) text ≡ claimed_block b key ivs j text n
  claimed_block_text n e = rw (part_lent ivs (16 * n) 16 refl, eq-eqb n j e)

  pub claimed_block_zeros : (n : ℕ) → (n ≡ j → ⊥)
      → ctr key (part (16 * n) (16 * n + 16 - 16 * n) ivs) (replicate b 0) ≡ claimed_block b key ivs j text n
  claimed_block_zeros n ne = rw (part_lent ivs (16 * n) 16 refl, ne_eqb n j ne)

-- It stands behind the IV block and n data blocks.
pub claimed_block_fits : (g : Geometry) → Allowed g → (ψ n : ℕ) → ψ < g.p → n < g.s → slice_start g ψ + g.b + n * g.b + g.b ≤ device_length g
unfolding block_start
claimed_block_fits g ok ψ n l h = omega (arith, block_fits g ok ψ n l h)

-- The slice under the IVs drawn first, and the map block under the IV drawn last, are what a claim stores from bytes that are drawn just as
-- many as needed.
pub claimed_stored : (device stored entered table drawn ivs iv lent key : List ℕ) (g : Geometry) (at i t j : ℕ) (text : List ℕ)
    → length drawn ≡ claim_need g → lent ≡ key → ivs ≡ take g.b drawn → iv ≡ drop g.b drawn
    → stored ≡ overlay device at (claimed_bytes g.b g.s lent ivs j text)
    → entered ≡ overlay stored (map_block_start g i t) (map_block table g lent i t iv)
    → entered ≡ overlay (overlay device at (claimed_bytes g.b g.s key (part 0 g.b drawn) j text)) (map_block_start g i t)
    (map_block table g key i t (part (0 + g.b) 16 drawn))
claimed_stored device stored entered table drawn ivs iv lent key g at i t j text long same front back slice block =
    let last : part (0 + g.b) 16 drawn ≡ drop g.b drawn =
    let e : 16 ≡ length (drop g.b drawn) = omega (arith, length-drop g.b drawn, long) in
    rw (zero-add g.b, e) (take-length (drop g.b drawn)) in
    rw (last, ← same, ← front, ← back, ← slice) block
