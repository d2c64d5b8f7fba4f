-- Laws of overlays: a part that was lent, and bytes that are stored piece by piece. Assumes nothing.
use Prim.Native.Nat.{ℕ, zero, suc, ◌+◌, ◌-◌, ◌*◌, ◌≤◌, ◌<◌}
use mathlib.Core.Path.{◌≡◌, refl, sym, ap, ◌∙◌}
use mathlib.Core.List.{List, [], ◌∷◌, ◌++◌}
use native.Mathlib.Nat.{zero-add, suc-add}
use native.Mathlib.Numerals.{add-one}
use native.Mathlib.Omega.{arith}
use borrow.Rule.Slice.PartMut.{put_mid, Post-is}
use lib.ListN.{length, take, drop}
use Rattle.model.specs.Parts.{overlay, joined}
use Rattle.model.proofs.Parts.{joined_length}

-- Inside the list an overlay is what stands before, the bytes, and what stands behind.
overlay-split {ℓ} : {A : Type ℓ} (s : List A) (at : ℕ) (d : List A) → at + length d ≤ length s
    → overlay s at d ≡ take at s ++ (d ++ drop (at + length d) s)
unfolding overlay
overlay-split [] zero [] h = refl
overlay-split [] (suc at) d h = absurd (omega arith)
overlay-split [] zero (y ∷ d) h = absurd (omega arith)
overlay-split (x ∷ s) zero [] h = refl
overlay-split {A = A} (x ∷ s) zero (y ∷ d) h = rw zero-add (ap (λ (l : List A). y ∷ l) (overlay-split s zero d (omega arith) ∙ rw zero-add refl))
overlay-split {A = A} (x ∷ s) (suc at) d h = rw suc-add (ap (λ (l : List A). x ∷ l) (overlay-split s at d (omega arith)))

-- What the borrow checker leaves of a part that was lent and given back.
pub overlay_lent : (at e : ℕ) (s d : List ℕ) → e ≡ at + length d → e ≤ length s → put_mid at (e - at) s d ≡ overlay s at d
overlay_lent at e s d q h =
    ap (λ (l : List ℕ). take at s ++ (d ++ l)) (Post-is at e s (omega arith) ∙ ap (λ (n : ℕ). drop n s) q)
    ∙ sym (overlay-split s at d (omega arith))

-- Bytes stored right behind others.
pub overlay_append : (s : List ℕ) (at : ℕ) (d e : List ℕ) → overlay (overlay s at d) (at + length d) e ≡ overlay s at (d ++ e)
unfolding overlay
overlay_append [] at d e = refl
overlay_append (x ∷ s) (suc at) d e = rw suc-add (ap (λ (l : List ℕ). x ∷ l) (overlay_append s at d e))
overlay_append (x ∷ s) zero [] e = refl
overlay_append (x ∷ s) zero (y ∷ d) e = rw zero-add (ap (λ (l : List ℕ). y ∷ l) (rw zero-add at (overlay_append s zero d e)))

-- No piece, one piece more, and pieces over all that stood.
pub overlay_none : (s : List ℕ) (at : ℕ) (f : ℕ → List ℕ) → overlay s at (joined 0 f) ≡ s
unfolding overlay joined
overlay_none [] at f = refl
overlay_none (x ∷ s) zero f = refl
overlay_none (x ∷ s) (suc at) f = ap (λ (l : List ℕ). x ∷ l) (overlay_none s at f)

pub overlay_joined : (s : List ℕ) (at w n : ℕ) (f : ℕ → List ℕ) → ((j : ℕ) → j < n → length (f j) ≡ w)
    → overlay (overlay s at (joined n f)) (at + n * w) (f n) ≡ overlay s at (joined (n + 1) f)
unfolding joined
overlay_joined s at w n f e =
    ap (λ (k : ℕ). overlay (overlay s at (joined n f)) (at + k) (f n)) (sym (joined_length w n f e))
    ∙ overlay_append s at (joined n f) (f n)
    ∙ ap (λ (k : ℕ). overlay s at (joined k f)) (sym (add-one n))

pub overlay_all : (s d : List ℕ) → length d ≡ length s → overlay s 0 d ≡ d
unfolding overlay
overlay_all [] [] e = refl
overlay_all [] (y ∷ d) e = absurd (omega arith)
overlay_all (x ∷ s) [] e = absurd (omega arith)
overlay_all (x ∷ s) (y ∷ d) e = ap (λ (l : List ℕ). y ∷ l) (overlay_all s d (omega arith))
