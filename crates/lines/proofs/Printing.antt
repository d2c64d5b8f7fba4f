-- Laws of printing bytes as digits at the start of a list. Assumes nothing.
use Prim.Native.Nat.{ℕ, zero, suc, ◌+◌, ◌*◌, ◌/◌, ◌%◌, ◌<◌}
use mathlib.Core.Path.{◌≡◌, refl, sym, ap, ◌∙◌}
use mathlib.Core.List.{List, [], ◌∷◌, ◌++◌}
use native.Mathlib.Numerals.{add-one}
use native.Mathlib.Omega.{arith}
use lib.ListN.{length, get_or, set, take, length-append}
use lib.Seq.{length-take-le, take-suc}
use Rattle.model.specs.Parts.{overlay}
use Rattle.lines.specs.Hexadecimal.{digit, digits}

-- ---- one more element behind those that stand at the start of a list

module _ {ℓ} {A : Type ℓ} where
  pub overlay_nil : (s : List A) → overlay s 0 [] ≡ s
  unfolding overlay
  overlay_nil [] = refl
  overlay_nil (x ∷ s) = refl

  pub overlay_snoc : (s d : List A) (n : ℕ) (a : A) → length d ≡ n → set (overlay s 0 d) n a ≡ overlay s 0 (d ++ (a ∷ []))
  unfolding overlay
  overlay_snoc [] d n a e = refl
  overlay_snoc (x ∷ s) [] zero a e = ap (λ (l : List A). a ∷ l) (sym (overlay_nil s))
  overlay_snoc (x ∷ s) [] (suc n) a e = absurd (omega arith)
  overlay_snoc (x ∷ s) (y ∷ d) zero a e = absurd (omega arith)
  overlay_snoc (x ∷ s) (y ∷ d) (suc n) a e = ap (λ (l : List A). y ∷ l) (overlay_snoc s d n a (omega arith))

-- ---- digits

pub digits-length : (bytes : List ℕ) → length (digits bytes) ≡ 2 * length bytes
unfolding digits
digits-length [] = refl
digits-length (b ∷ bytes) = omega (arith, digits-length bytes)

digits_snoc : (bytes : List ℕ) (b : ℕ) → digits (bytes ++ (b ∷ [])) ≡ digits bytes ++ (digit (b / 16) ∷ []) ++ (digit (b % 16) ∷ [])
unfolding digits
digits_snoc [] b = refl
digits_snoc (x ∷ bytes) b = ap (λ (l : List ℕ). digit (x / 16) ∷ digit (x % 16) ∷ l) (digits_snoc bytes b)

-- The two digits of byte i behind those of the bytes before it.
pub digits_turn : (bytes out : List ℕ) (i : ℕ) → i < length bytes
    → set (set (overlay out 0 (digits (take i bytes))) (2 * i) (digit (get_or bytes i 0 / 16))) (2 * i + 1) (digit (get_or bytes i 0 % 16))
    ≡ overlay out 0 (digits (take (i + 1) bytes))
digits_turn bytes out i l =
    let b = get_or bytes i 0 in
    let d = digits (take i bytes) in
    let long : length d ≡ 2 * i = digits-length (take i bytes) ∙ ap (λ (n : ℕ). 2 * n) (length-take-le i bytes (omega arith)) in
    rw (overlay_snoc out d (2 * i) (digit (b / 16)) long)
    (overlay_snoc out (d ++ (digit (b / 16) ∷ [])) (2 * i + 1) (digit (b % 16)) (simp length-append (omega arith))
    ∙ ap (overlay out 0) (sym (digits_snoc (take i bytes) b) ∙ rw (add-one i, take-suc bytes i 0) refl))
