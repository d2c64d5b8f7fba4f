-- A sealed text is stored piece by piece: IV, ciphertext, tag. Assumes nothing.
use Prim.Native.Nat.{ℕ, ◌+◌, ◌-◌, ◌≤◌}
use mathlib.Core.Path.{◌≡◌, sym, ap, ap₂, ◌∙◌}
use mathlib.Core.List.{List, [], ◌∷◌, ◌++◌, append_assoc}
use native.Mathlib.Omega.{arith}
use borrow.Rule.Slice.PartMut.{put_mid}
use lib.ListN.{length, length-append}
use Rattle.gcm_spec.specs.Gcm.{gcm_text, gcm_tag}
use Rattle.gcm_spec.proofs.Gctr.{text_length}
use Rattle.model.specs.Parts.{overlay}
use Rattle.model.specs.Format.{sealed}
use Rattle.model.proofs.Parts.{overlay_length}
use Rattle.places.proofs.Parts.{overlay_lent, overlay_append}

module _ (s : List ℕ) (at : ℕ) (key iv text : List ℕ) (i : ℕ) (ivl : length iv ≡ 12) (fits : at + (length text + 28) ≤ length s) where
  abbrev cipher : List ℕ
  cipher = gcm_text key iv text

  abbrev tagged : List ℕ
  tagged = gcm_tag key iv (i ∷ []) cipher

  -- The ciphertext right behind the IV, and the tag right behind it.
  cipher_stored : overlay (overlay s at iv) (at + 12) cipher ≡ overlay s at (iv ++ cipher)
  cipher_stored =
      ap (λ (n : ℕ). overlay (overlay s at iv) (at + n) cipher) (sym ivl) ∙ overlay_append s at iv cipher

  tag_place : at + 12 + length text ≡ at + length (iv ++ cipher)
  tag_place = omega (arith, length-append iv cipher, text_length key iv text)

  pub sealed_stored : {stored sealing done out tag : List ℕ} → stored ≡ overlay s at iv → out ≡ cipher → tag ≡ tagged
      → sealing ≡ put_mid (at + 12) (at + 12 + length text - (at + 12)) stored out → done ≡ overlay sealing (at + 12 + length text) tag
      → done ≡ overlay s at (sealed key iv i text)
  unfolding sealed
  sealed_stored {stored} {sealing} {done} {out} {tag} e o t lent d =
      d
      ∙ ap₂ (λ (x y : List ℕ). overlay x (at + 12 + length text) y) (lent ∙ ap₂ placed e o ∙ laid ∙ cipher_stored) t
      ∙ ap (λ (n : ℕ). overlay (overlay s at (iv ++ cipher)) n tagged) tag_place
      ∙ overlay_append s at (iv ++ cipher) tagged
      ∙ ap (overlay s at) (append_assoc iv cipher tagged)
    where
      placed : List ℕ → List ℕ → List ℕ
      placed = put_mid (at + 12) (at + 12 + length text - (at + 12))

      laid : placed (overlay s at iv) cipher ≡ overlay (overlay s at iv) (at + 12) cipher
      laid =
          overlay_lent (at + 12) (at + 12 + length text) (overlay s at iv) cipher (omega (arith, text_length key iv text))
          (omega (arith, overlay_length s at iv))
