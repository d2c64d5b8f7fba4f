-- Laws of the sum of two lists of bytes. Assumes nothing.
use Prim.Native.Nat.{ℕ, zero, suc, ◌<◌}
use mathlib.Core.Path.{◌≡◌, refl, ap, ap₂, ◌∙◌}
use mathlib.Core.List.{List, [], ◌∷◌}
use native.Mathlib.Omega.{arith}
use lib.Bits.{bit_xor, xor_self, xor_zero_r, xor_assoc}
use lib.ListN.{length, get_or, take, drop}
use Rattle.ctr_spec.specs.CounterMode.{xors}

pub xor_twice : (a k : ℕ) → bit_xor (bit_xor a k) k ≡ a
xor_twice a k = xor_assoc a k k ∙ ap (bit_xor a) (xor_self k) ∙ xor_zero_r a

pub xors_twice : (xs ks : List ℕ) → xors (xors xs ks) ks ≡ xs
unfolding xors
xors_twice [] ks = refl
xors_twice (x ∷ xs) [] = refl
xors_twice (x ∷ xs) (k ∷ ks) = ap₂ (λ (y : ℕ) (l : List ℕ). y ∷ l) (xor_twice x k) (xors_twice xs ks)

pub xors-length : (xs ks : List ℕ) → length (xors xs ks) ≡ length xs
unfolding xors
xors-length [] ks = refl
xors-length (x ∷ xs) [] = refl
xors-length (x ∷ xs) (k ∷ ks) = ap suc (xors-length xs ks)

pub xors_get_or : (xs ks : List ℕ) (i : ℕ) → i < length xs → i < length ks → get_or (xors xs ks) i 0 ≡ bit_xor (get_or xs i 0) (get_or ks i 0)
unfolding xors
xors_get_or [] ks i h l = absurd (omega arith)
xors_get_or (x ∷ xs) [] i h l = absurd (omega arith)
xors_get_or (x ∷ xs) (k ∷ ks) zero h l = refl
xors_get_or (x ∷ xs) (k ∷ ks) (suc i) h l = xors_get_or xs ks i (omega arith) (omega arith)

pub xors-drop : (n : ℕ) (xs ks : List ℕ) → length xs ≡ length ks → drop n (xors xs ks) ≡ xors (drop n xs) (drop n ks)
unfolding xors
xors-drop zero xs ks e = refl
xors-drop (suc n) [] ks e = refl
xors-drop (suc n) (x ∷ xs) [] e = absurd (omega arith)
xors-drop (suc n) (x ∷ xs) (k ∷ ks) e = xors-drop n xs ks (omega arith)

pub xors-take : (n : ℕ) (xs ks : List ℕ) → take n (xors xs ks) ≡ xors (take n xs) (take n ks)
unfolding xors
xors-take zero xs ks = refl
xors-take (suc n) [] ks = refl
xors-take (suc n) (x ∷ xs) [] = refl
xors-take (suc n) (x ∷ xs) (k ∷ ks) = ap (λ (l : List ℕ). bit_xor x k ∷ l) (xors-take n xs ks)
