-- Four parts that are equal one by one make equal lists of four. Assumes nothing.
use mathlib.Core.Path.{◌≡◌}
use mathlib.Core.List.{List, [], ◌∷◌}
use native.Mathlib.Omega.{arith}
use lib.ListN.{length, get_or}

pub four_equal : {A : Type 0} {a a' b b' c c' d d' : A} → a ≡ a' → b ≡ b' → c ≡ c' → d ≡ d'
    → ◌≡◌ {A = List A} (a ∷ b ∷ c ∷ d ∷ []) (a' ∷ b' ∷ c' ∷ d' ∷ [])
four_equal p q r s = cc

-- A list of four is its parts.
pub four_parts : {A : Type 0} (xs : List A) (d : A) {a b c e : A} → length xs ≡ 4 → get_or xs 0 d ≡ a → get_or xs 1 d ≡ b → get_or xs 2 d ≡ c
    → get_or xs 3 d ≡ e → xs ≡ a ∷ b ∷ c ∷ e ∷ []
four_parts (x ∷ y ∷ z ∷ w ∷ []) d l p q r s = four_equal p q r s
four_parts [] d l p q r s = absurd (omega arith)
four_parts (x ∷ []) d l p q r s = absurd (omega arith)
four_parts (x ∷ y ∷ []) d l p q r s = absurd (omega arith)
four_parts (x ∷ y ∷ z ∷ []) d l p q r s = absurd (omega arith)
four_parts (x ∷ y ∷ z ∷ w ∷ v ∷ xs) d l p q r s = absurd (omega arith)
