-- The test of two lists: it is equality, and the loop over their bytes computes it. Assumes nothing.
use Prim.Native.Nat.{ℕ, zero, suc, ◌+◌, ◌<◌}
use mathlib.Core.Path.{◌≡◌, refl, sym, ap, ap₂, ◌∙◌}
use mathlib.Core.Bool.{Bool, true, false, ◌&&◌, and-true, and_assoc, false≢true}
use mathlib.Core.List.{List, [], ◌∷◌}
use native.Mathlib.Omega.{arith}
use native.Mathlib.Numerals.{add-one}
use borrow.Author.Tests.{eq-eqb, ne_eqb, eqb-true, eqb-false}
use lib.Dec.{eqb}
use lib.ListN.{length, take, get_or}
use lib.Bits.{bit_or, bit_xor, or_add_and, and_le_l, and_le_r, xor_self, xor_zero_l}
use Rattle.ctr_spec.proofs.Xors.{xor_twice}
use Rattle.gcm_spec.specs.Gcm.{same, text_if, Text, gcm_tag, gcm_text, gcm_open}
use Rattle.gcm_spec.proofs.Gctr.{text_twice}

-- ---- what the test means

pub same_refl : (a : List ℕ) → same a a ≡ true
unfolding same
same_refl [] = refl
same_refl (x ∷ a) = ap₂ (λ (t u : Bool). t && u) (eq-eqb x x refl) (same_refl a)

pub same_equal : (a b : List ℕ) → same a b ≡ true → a ≡ b
unfolding same
same_equal [] [] h = refl
same_equal [] (y ∷ b) h = absurd (false≢true h)
same_equal (x ∷ a) [] h = absurd (false≢true h)
same_equal (x ∷ a) (y ∷ b) h = by_head (eqb x y) refl h (same_equal a b)
  where
    by_head : (t : Bool) → eqb x y ≡ t → (t && same a b) ≡ true → (same a b ≡ true → a ≡ b) → x ∷ a ≡ y ∷ b
    by_head true p q f = ap₂ (λ (z : ℕ) (l : List ℕ). z ∷ l) (eqb-true x y p) (f q)
    by_head false p q f = absurd (false≢true q)

-- Opening, by the outcome of its test.
pub open_test : (key iv aad c tag : List ℕ) {r t : Bool} → r ≡ same (gcm_tag key iv aad c) tag → r ≡ t
    → gcm_open key iv aad c tag ≡ text_if t (gcm_text key iv c)
unfolding gcm_open
open_test key iv aad c tag e h = ap (λ (t : Bool). text_if t (gcm_text key iv c)) (sym e ∙ h)

pub open_sealed : (key iv aad text : List ℕ) → gcm_open key iv aad (gcm_text key iv text) (gcm_tag key iv aad (gcm_text key iv text)) ≡ Text text
open_sealed key iv aad text =
    let c : List ℕ = gcm_text key iv text in
    open_test key iv aad c (gcm_tag key iv aad c) refl (same_refl (gcm_tag key iv aad c)) ∙ ap Text (text_twice key iv text)

pub open_right : (key iv aad c tag text : List ℕ) → gcm_open key iv aad c tag ≡ Text text → (text ≡ gcm_text key iv c) × (tag ≡ gcm_tag key iv aad c)
unfolding gcm_open
open_right key iv aad c tag text h = by_test (same (gcm_tag key iv aad c) tag) refl h
  where
    by_test : (t : Bool) → same (gcm_tag key iv aad c) tag ≡ t → text_if t (gcm_text key iv c) ≡ Text text
        → (text ≡ gcm_text key iv c) × (tag ≡ gcm_tag key iv aad c)
    by_test true p q = (cc, sym (same_equal (gcm_tag key iv aad c) tag p))
    by_test false p q = absurd (let z : ◌≡◌ {A = ℕ} 0 1 = cc in omega arith)

-- ---- the loop over bytes

or_zero : (a b : ℕ) → bit_or a b ≡ 0 → (a ≡ 0) × (b ≡ 0)
or_zero a b h =
    let s = or_add_and a b in
    let p = and_le_l a b in
    let q = and_le_r a b in
    (omega arith, omega arith)

xor_zero : (x y : ℕ) → bit_xor x y ≡ 0 → x ≡ y
xor_zero x y h = sym (xor_twice x y) ∙ ap (λ (d : ℕ). bit_xor d y) h ∙ xor_zero_l y

or_same : (d x y : ℕ) (t u : Bool) → eqb d 0 ≡ t → eqb x y ≡ u → eqb (bit_or d (bit_xor x y)) 0 ≡ (t && u)
or_same d x y true true p q =
    eq-eqb (bit_or d (bit_xor x y)) 0 (ap₂ bit_or (eqb-true d 0 p) (ap (λ (z : ℕ). bit_xor z y) (eqb-true x y q) ∙ xor_self y))
or_same d x y true false p q = ne_eqb (bit_or d (bit_xor x y)) 0 (λ h. eqb-false x y q (xor_zero x y (or_zero d (bit_xor x y) h).1))
or_same d x y false u p q = ne_eqb (bit_or d (bit_xor x y)) 0 (λ h. eqb-false d 0 p (or_zero d (bit_xor x y) h).0)

same-take : (i : ℕ) (a b : List ℕ) → i < length a → i < length b
    → same (take (suc i) a) (take (suc i) b) ≡ (same (take i a) (take i b) && eqb (get_or a i 0) (get_or b i 0))
unfolding same
same-take i [] b h k = absurd (omega arith)
same-take i (x ∷ a) [] h k = absurd (omega arith)
same-take zero (x ∷ a) (y ∷ b) h k = and-true (eqb x y)
same-take (suc i) (x ∷ a) (y ∷ b) h k =
    ap (λ (t : Bool). eqb x y && t) (same-take i a b (omega arith) (omega arith))
    ∙ sym (and_assoc (eqb x y) (same (take i a) (take i b)) (eqb (get_or a i 0) (get_or b i 0)))

-- A turn: the difference of one byte more is gathered in d.
pub same_turn : (d i : ℕ) (a b : List ℕ) → i < length a → i < length b → eqb d 0 ≡ same (take i a) (take i b)
    → eqb (bit_or d (bit_xor (get_or a i 0) (get_or b i 0))) 0 ≡ same (take (i + 1) a) (take (i + 1) b)
same_turn d i a b h k e =
    or_same d (get_or a i 0) (get_or b i 0) _ _ e refl
    ∙ sym (same-take i a b h k)
    ∙ ap (λ (n : ℕ). same (take n a) (take n b)) (sym (add-one i))
