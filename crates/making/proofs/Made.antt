-- What a formatting stores, piece by piece, is what the model says. Assumes nothing.
use Prim.Native.Nat.{ℕ, ◌+◌}
use mathlib.Core.Path.{◌≡◌, refl, sym, ap, ◌∙◌}
use mathlib.Core.List.{List, ◌++◌, append_assoc}
use native.Mathlib.Nat.{zero-add}
use native.Mathlib.Numerals.{add-one}
use native.Mathlib.Omega.{arith}
use lib.ListN.{length, length-append}
use Rattle.model.specs.declared.Geometry.{Geometry}
use Rattle.model.specs.Parts.{overlay, patched}
use Rattle.model.specs.Geometry.{cell_start, header_start, map_start}
use Rattle.model.specs.Format.{sealed, made_cell, made_header, made_map, cell_patches, header_patches}
use Rattle.model.proofs.Parts.{patched-++}
use Rattle.places.proofs.Parts.{overlay_append, overlay_all}

-- ---- the text of a header

-- Four pieces end to end, each stored where the one before it ends, fill what they are stored over.
pub four_pieces : (s a b c d : List ℕ) (x y z : ℕ) → length a ≡ x → x + length b ≡ y → y + length c ≡ z → z + length d ≡ length s
    → overlay (overlay (overlay (overlay s 0 a) x b) y c) z d ≡ a ++ (b ++ (c ++ d))
four_pieces s a b c d x y z ex ey ez es =
    let two : length (a ++ b) ≡ y = omega (arith, length-append a b) in
    let three : length ((a ++ b) ++ c) ≡ z = omega (arith, length-append (a ++ b) c) in
    ap (λ (t : List ℕ). overlay (overlay t y c) z d) (behind a b x ex)
    ∙ ap (λ (t : List ℕ). overlay t z d) (behind (a ++ b) c y two)
    ∙ behind ((a ++ b) ++ c) d z three
    ∙ overlay_all s (((a ++ b) ++ c) ++ d) (omega (arith, length-append ((a ++ b) ++ c) d))
    ∙ simp append_assoc
  where
    behind : (p q : List ℕ) (at : ℕ) → length p ≡ at → overlay (overlay s 0 p) at q ≡ overlay s 0 (p ++ q)
    behind p q at e =
        ap (λ (n : ℕ). overlay (overlay s 0 p) n q) (sym (zero-add (length p) ∙ e)) ∙ overlay_append s 0 p q

-- ---- cells, and headers with their maps, one more

pub sealed-same : (s : List ℕ) (i : ℕ) {at at' : ℕ} {key key' iv iv' text text' : List ℕ} → at ≡ at' → key ≡ key' → iv ≡ iv' → text ≡ text'
    → overlay s at (sealed key iv i text) ≡ overlay s at' (sealed key' iv' i text')
sealed-same s i e k v t = cc

module _ (g : Geometry) (n : ℕ) (drawn : List ℕ) (s : List ℕ) where
  pub cell_patches_turn : (keys : List ℕ) (i : ℕ)
      → overlay (patched (cell_patches g n keys drawn i) s) (cell_start i) (made_cell g n keys drawn i) ≡ patched (cell_patches g n keys drawn (i + 1)) s
  unfolding cell_patches patched
  cell_patches_turn keys i =
      sym (patched-++ (cell_patches g n keys drawn i) _ s) ∙ ap (λ (c : ℕ). patched (cell_patches g n keys drawn c) s) (sym (add-one i))

  pub header_patches_turn : (counts : List ℕ) (i : ℕ)
      → overlay (overlay (patched (header_patches g n counts drawn i) s) (header_start g i) (made_header g n counts drawn i)) (map_start g i)
      (made_map g n drawn i)
      ≡ patched (header_patches g n counts drawn (i + 1)) s
  unfolding header_patches patched
  header_patches_turn counts i =
      sym (patched-++ (header_patches g n counts drawn i) _ s) ∙ ap (λ (c : ℕ). patched (header_patches g n counts drawn c) s) (sym (add-one i))

  pub cell_patches_none : (keys : List ℕ) → s ≡ patched (cell_patches g n keys drawn 0) s
  unfolding cell_patches patched
  cell_patches_none keys = refl

  pub header_patches_none : (counts : List ℕ) → s ≡ patched (header_patches g n counts drawn 0) s
  unfolding header_patches patched
  header_patches_none counts = refl
