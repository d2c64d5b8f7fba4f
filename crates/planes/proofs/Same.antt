-- A function of four rows at rows that are equal one by one. Assumes nothing.
use mathlib.Core.Path.{◌≡◌}
use mathlib.Core.List.{List}
use Prim.Native.Nat.{ℕ}

pub same_rows : {A : Type 0} (f : (a b c d : List ℕ) → A) {a a' b b' c c' d d' : List ℕ} → a ≡ a' → b ≡ b' → c ≡ c' → d ≡ d'
    → f a b c d ≡ f a' b' c' d'
same_rows f p q r s = cc
