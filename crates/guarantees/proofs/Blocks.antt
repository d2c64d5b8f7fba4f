-- After a served write each block of an open volume is what it was, but for the block written. Assumes nothing.
use Prim.Native.Nat.{ℕ, ◌+◌, ◌*◌, ◌/◌, ◌%◌, ◌≤◌, ◌<◌}
use mathlib.Core.Path.{◌≡◌, sym, ap, ap₂, ◌∙◌}
use mathlib.Core.List.{List}
use mathlib.Core.Logic.{inl, inr, ⊎_elim}
use native.Mathlib.Omega.{arith}
use native.Mathlib.Nat.{div-add-mod'}
use lib.ListN.{length, replicate, length-append}
use lib.Arith.{digits_div, digits_mod}
use lib.Dec.{eqb}
use Rattle.ctr_spec.specs.CounterMode.{ctr}
use Rattle.ctr_spec.proofs.Stream.{ctr_twice, ctr_length}
use Rattle.model.specs.declared.Geometry.{Geometry}
use Rattle.model.specs.Parts.{choose, part, overlay, joined}
use Rattle.model.specs.Geometry.{device_length, slice_size, slice_start, iv_start, block_start, Allowed}
use Rattle.model.specs.Session.{slot, slice_of, offset_of}
use Rattle.model.specs.Read.{deciphered}
use Rattle.model.specs.Write.{claimed_bytes}
use Rattle.model.proofs.Parts.{overlay_length, overlay_within, overlay_whole, joined_length}
use Rattle.model.proofs.Bounds.{slice_fits, block_within, iv_within_slice, iv_fits, block_fits}
use Rattle.model.proofs.Tests.{below}
use Rattle.model.proofs.Blocks.{deciphered_mapped, deciphered_unmapped, claimed_block, claimed_block_length, claimed_block_lem}
use Rattle.guarantees.proofs.Places.{Apart, overlay-apart, apart, iv_iv, iv_block, block_iv, block_block}

-- ---- addresses

module _ (g : Geometry) where
  pub same_address : (a b : ℕ) → slice_of g a ≡ slice_of g b → offset_of g a ≡ offset_of g b → a ≡ b
  same_address a b e f = sym (div-add-mod' a g.s) ∙ ap₂ (λ (x y : ℕ). x * g.s + y) e f ∙ div-add-mod' b g.s

  pub same_slot : (i σ j τ : ℕ) → σ < g.p → τ < g.p → slot g i σ ≡ slot g j τ → (i ≡ j) × (σ ≡ τ)
  same_slot i σ j τ hσ hτ e = (
    sym (digits_div i hσ) ∙ ap (λ (x : ℕ). x / g.p) e ∙ digits_div j hτ,
    sym (digits_mod i hσ) ∙ ap (λ (x : ℕ). x % g.p) e ∙ digits_mod j hτ,
  )

-- ---- what a block is

-- On two devices with the same IV and block there, or where nothing is mapped.
pub deciphered-same : (g : Geometry) (key : List ℕ) (ψ j : ℕ) (s t : List ℕ)
    → (ψ < g.p → (part (iv_start g ψ j) 16 s ≡ part (iv_start g ψ j) 16 t) × (part (block_start g ψ j) g.b s ≡ part (block_start g ψ j) g.b t))
    → deciphered g key ψ j s ≡ deciphered g key ψ j t
deciphered-same g key ψ j s t same =
    ⊎_elim (λ l. deciphered_mapped g key ψ j s l ∙ ap₂ (ctr key) (same l).0 (same l).1 ∙ sym (deciphered_mapped g key ψ j t l))
    (λ l. deciphered_unmapped g key ψ j s l ∙ sym (deciphered_unmapped g key ψ j t l)) (below ψ g.p)

-- ---- a block stored anew

module _ (g : Geometry) (ok : Allowed g) (device key iv text : List ℕ) (ψ j : ℕ) (hψ : ψ < g.p) (hj : j < g.s)
    (long : length device ≡ device_length g) (ivl : length iv ≡ 16) (textl : length text ≡ g.b) where
  abbrev device₁ : List ℕ
  device₁ = overlay device (iv_start g ψ j) iv

  abbrev restored : List ℕ
  restored = overlay device₁ (block_start g ψ j) (ctr key iv text)

  cipher_long : length (ctr key iv text) ≡ g.b
  cipher_long = ctr_length key iv text ∙ textl

  -- A part apart from both places written.
  untouched : (a n : ℕ) → Apart a n (iv_start g ψ j) 16 → Apart a n (block_start g ψ j) g.b → part a n restored ≡ part a n device
  untouched a n p q =
      overlay-apart device₁ (block_start g ψ j) (ctr key iv text) a n g.b cipher_long q
      ∙ overlay-apart device (iv_start g ψ j) iv a n 16 ivl p

  pub restored_here : deciphered g key ψ j restored ≡ text
  restored_here =
      deciphered_mapped g key ψ j restored hψ
      ∙ ap₂ (ctr key)
      (overlay-apart device₁ (block_start g ψ j) (ctr key iv text) (iv_start g ψ j) 16 g.b cipher_long (iv_block g ok ψ ψ j j hj hj)
      ∙ overlay_whole device (iv_start g ψ j) iv 16 ivl (omega (arith, iv_fits g ok ψ j hψ hj)))
      (overlay_whole device₁ (block_start g ψ j) (ctr key iv text) g.b cipher_long
      (omega (arith, overlay_length device (iv_start g ψ j) iv, block_fits g ok ψ j hψ hj)))
      ∙ ctr_twice key iv text

  -- Any other block of any slice, under any key.
  pub restored_other : (key' : List ℕ) (φ n : ℕ) → n < g.s → (φ ≡ ψ → n ≡ j → ⊥) → deciphered g key' φ n restored ≡ deciphered g key' φ n device
  restored_other key' φ n hn ne =
      deciphered-same g key' φ n restored device (λ l. (
        untouched (iv_start g φ n) 16 (iv_iv g ok φ ψ n j hn hj ne) (iv_block g ok φ ψ n j hn hj),
        untouched (block_start g φ n) g.b (block_iv g ok φ ψ n j hn hj) (block_block g ok φ ψ n j hn hj ne),
      ))

-- ---- a slice claimed

-- The text of block n of a slice that is claimed for a text in block j.
abbrev pub claimed_text : Geometry → (text : List ℕ) → (j n : ℕ) → List ℕ
claimed_text g text j n = choose (eqb n j) text (replicate g.b 0)

module _ (g : Geometry) (key ivs text : List ℕ) (j : ℕ) (ivsl : length ivs ≡ g.b) (textl : length text ≡ g.b) where
  abbrev bytes : List ℕ
  bytes = claimed_bytes g.b g.s key ivs j text

  pub claimed_length : length bytes ≡ slice_size g
  unfolding claimed_bytes slice_size
  claimed_length =
      let blocks = claimed_block g.b key ivs j text in
      length-append ivs (joined g.s blocks)
      ∙ rw (ivsl, joined_length g.b g.s blocks (λ n l. claimed_block_length g.b key ivs j text textl n)) (omega arith)

  module _ (ok : Allowed g) (device : List ℕ) (long : length device ≡ device_length g) (ψ : ℕ) (hψ : ψ < g.p) where
    abbrev filled : List ℕ
    filled = overlay device (slice_start g ψ) bytes

    fits : slice_start g ψ + length bytes ≤ length device
    fits = omega (arith, slice_fits g ok ψ hψ, claimed_length)

    iv_of : (n : ℕ) → n < g.s → part (iv_start g ψ n) 16 filled ≡ part (16 * n) 16 bytes
    unfolding iv_start
    iv_of n l = overlay_within device (slice_start g ψ) bytes (16 * n) 16 (omega (arith, claimed_length, iv_within_slice g ok n l)) fits

    block_of : (n : ℕ) → n < g.s → part (block_start g ψ n) g.b filled ≡ part (g.b + n * g.b) g.b bytes
    unfolding block_start
    block_of n l =
        let skip : g.b * (1 + n) ≡ g.b + n * g.b = omega arith in
        overlay_within device (slice_start g ψ) bytes (g.b * (1 + n)) g.b (omega (arith, claimed_length, block_within g ok n l)) fits
        ∙ ap (λ (x : ℕ). part x g.b bytes) skip

    pub filled_here : (n : ℕ) → n < g.s → deciphered g key ψ n filled ≡ claimed_text g text j n
    filled_here n l =
        deciphered_mapped g key ψ n filled hψ
        ∙ ap₂ (ctr key) (iv_of n l) (block_of n l)
        ∙ claimed_block_lem g.b g.s key ivs j text ivsl (omega (arith, ok.slice_most)) textl n l

    -- What lies within another slice stays.
    elsewhere : (φ x u : ℕ) → (φ ≡ ψ → ⊥) → x + u ≤ slice_size g → part (slice_start g φ + x) u filled ≡ part (slice_start g φ + x) u device
    elsewhere φ x u ne k =
        overlay-apart device (slice_start g ψ) bytes (slice_start g φ + x) u (slice_size g) claimed_length
        (⊎_elim (λ l. inl (omega arith)) (λ l. inr (omega arith)) (apart g φ ψ x u 0 (slice_size g) k (omega arith) (λ e. absurd (ne e))))

    pub filled_other : (key' : List ℕ) (φ n : ℕ) → n < g.s → (φ ≡ ψ → ⊥) → deciphered g key' φ n filled ≡ deciphered g key' φ n device
    unfolding iv_start block_start
    filled_other key' φ n hn ne =
        deciphered-same g key' φ n filled device
        (λ l. (elsewhere φ (16 * n) 16 ne (iv_within_slice g ok n hn), elsewhere φ (g.b * (1 + n)) g.b ne (block_within g ok n hn)))
