-- The bytes that a formatting draws, as long as it needs them, and what it makes of them: how long each thing is, and where its cells
-- stand. Assumes nothing.
use Prim.Native.Nat.{ℕ, zero, suc, ◌+◌, ◌*◌, ◌≤◌, ◌<◌}
use mathlib.Core.Path.{◌≡◌, ap, ◌∙◌}
use mathlib.Core.List.{List}
use mathlib.Core.Logic.{⊎_elim}
use native.Mathlib.Nat.{eq-or-lt_of_le, le_of_suc-le-suc, mul-le-mul_left}
use native.Mathlib.Omega.{arith}
use lib.ListN.{length, length-append, length-take, length-drop, length-replicate}
use Rattle.block.proofs.Bytes.{big_endian-length}
use Rattle.model.specs.declared.Geometry.{Geometry}
use Rattle.model.specs.Parts.{part, overlay, patched}
use Rattle.model.specs.Geometry.{map_blocks, cell_start, cell_of}
use Rattle.model.specs.Format.{drawn_vmk, drawn_vek, cell_iv, header_iv_at, map_iv_at, header_iv, format_need}
use Rattle.model.specs.Format.{made_cell, made_below, made_text, made_header, cell_patches}
use Rattle.model.proofs.Parts.{overlay_before, overlay_whole, patched-length, patched-++}
use Rattle.model.proofs.Seals.{sealed_length}

-- The IVs of volume i end before the bytes drawn do.
pub ivs_inside : (g : Geometry) (n drawn : ℕ) → drawn ≡ format_need g n → (i : ℕ) → i < n → header_iv_at g n i + (12 + 16 * map_blocks g) ≤ drawn
unfolding format_need
ivs_inside g n drawn long i l = omega (arith, mul-le-mul_left (12 + 16 * map_blocks g) l)

module _ (g : Geometry) (n : ℕ) (drawn : List ℕ) (long : length drawn ≡ format_need g n) where
  -- ---- what is drawn

  pub ivs_end : (i : ℕ) → i < n → header_iv_at g n i + (12 + 16 * map_blocks g) ≤ length drawn
  ivs_end = ivs_inside g n (length drawn) long

  pub drawn_vmk_length : (i : ℕ) → i < n → length (drawn_vmk g drawn i) ≡ 32
  unfolding format_need
  drawn_vmk_length i l = simp (length-take, length-drop) (omega arith)

  pub drawn_vek_length : (i : ℕ) → i < n → length (drawn_vek g drawn i) ≡ 32
  unfolding format_need
  drawn_vek_length i l = simp (length-take, length-drop) (omega arith)

  pub cell_iv_length : (i : ℕ) → i < n → length (cell_iv g n drawn i) ≡ 12
  unfolding format_need
  cell_iv_length i l = simp (length-take, length-drop) (omega arith)

  pub header_iv_length : (i : ℕ) → i < n → length (header_iv g n drawn i) ≡ 12
  header_iv_length i l = simp (length-take, length-drop) (omega (arith, ivs_end i l))

  pub map_iv_length : (i t : ℕ) → i < n → t < map_blocks g → length (part (map_iv_at g n i + 16 * t) 16 drawn) ≡ 16
  map_iv_length i t l h = simp (length-take, length-drop) (omega (arith, ivs_end i l))

  -- ---- what is made

  pub made_below_length : (i : ℕ) → i < n → length (made_below g drawn i) ≡ 32
  made_below_length zero l = length-replicate {A = ℕ} 32 0
  made_below_length (suc i) l = drawn_vmk_length i (omega arith)

  pub made_text_length : (counts : List ℕ) (i : ℕ) → i < n → length (made_text g counts drawn i) ≡ 72
  made_text_length counts i l =
      simp (length-append, drawn_vek_length i l, made_below_length i l, big_endian-length)

  pub made_cell_length : (keys : List ℕ) (i : ℕ) → i < n → length (made_cell g n keys drawn i) ≡ 60
  made_cell_length keys i l = sealed_length _ _ _ 32 _ (cell_iv_length i l) (drawn_vmk_length i l)

  pub made_header_length : (counts : List ℕ) (i : ℕ) → i < n → length (made_header g n counts drawn i) ≡ 100
  made_header_length counts i l = sealed_length _ _ _ 72 _ (header_iv_length i l) (made_text_length counts i l)

  -- Each of the first c cells stands where it was stored.
  pub cell_patches_stand : (keys : List ℕ) (c : ℕ) (s : List ℕ) → c ≤ n → cell_start c ≤ length s → (j : ℕ) → j < c
      → cell_of (patched (cell_patches g n keys drawn c) s) j ≡ made_cell g n keys drawn j
  unfolding cell_patches patched
  cell_patches_stand keys zero s h f j l = absurd (omega arith)
  cell_patches_stand keys (suc c) s h f j l =
      ap (λ (d : List ℕ). cell_of d j) (patched-++ (cell_patches g n keys drawn c) _ s)
      ∙ ⊎_elim last (λ k. earlier k (cell_patches_stand keys c s (omega arith) (omega arith) j k)) (eq-or-lt_of_le (le_of_suc-le-suc l))
    where
      below : List ℕ
      below = patched (cell_patches g n keys drawn c) s

      last : j ≡ c → cell_of (overlay below (cell_start c) (made_cell g n keys drawn c)) j ≡ made_cell g n keys drawn j
      last e =
          rw e
          (overlay_whole below (cell_start c) _ 60 (made_cell_length keys c (omega arith))
          (omega (arith, patched-length (cell_patches g n keys drawn c) s)))

      earlier : j < c → cell_of below j ≡ made_cell g n keys drawn j
          → cell_of (overlay below (cell_start c) (made_cell g n keys drawn c)) j ≡ made_cell g n keys drawn j
      earlier k ih = overlay_before below (cell_start c) _ (cell_start j) 60 (omega arith) ∙ ih
