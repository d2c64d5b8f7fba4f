-- The permutation: whether it names each slice once (document 01, 5), and where it names one (document 02, P5). Assumes nothing.
use Rattle.std.specs.Prelude.{ℕ, zero, suc, List, [], ◌∷◌, Bool, false, not, ◌||◌, length, eqb}
use Rattle.refusals.specs.Numbers.{refuse}
use Rattle.model.specs.Parts.{choose}

-- Whether a number is in a list.
abbrev pub member : ℕ → List ℕ → Bool
member x [] = false
member x (y ∷ ys) = eqb x y || member x ys

-- Whether one of the slices below n is not in the permutation. A permutation of P places that names each of P slices
-- names each once.
abbrev pub missing : ℕ → List ℕ → Bool
missing zero perm = false
missing (suc n) perm = missing n perm || not (member n perm)

-- 5, of the whole permutation: it is not P long, or does not name each slice once.
abbrev pub bad_permutation : (p : ℕ) → (perm : List ℕ) → (rest : ℕ) → ℕ
bad_permutation p perm rest =
    refuse (not (eqb (length perm) p)) 5
    (refuse (missing p perm) 5
    rest)

-- The place of slice ψ: the first that names it, the number of places where none does (document 02, P5). A permutation that names each
-- slice once names it at no other.
unfoldable pub place_of : (ψ : ℕ) → (perm : List ℕ) → ℕ
place_of ψ [] = 0
place_of ψ (φ ∷ perm) = choose (eqb φ ψ) 0 (suc (place_of ψ perm))
