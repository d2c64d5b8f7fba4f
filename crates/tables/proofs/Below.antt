-- A test of each number of a range, and of each slice, as a test of each number below a bound. Assumes nothing.
use mathlib.Core.Path.{◌≡◌, refl, ap, ◌∙◌}
use mathlib.Core.Bool.{Bool, not, ◌||◌}
use mathlib.Core.List.{List}
use Prim.Native.Nat.{ℕ, zero, suc}
use native.Mathlib.Nat.{zero-add}
use native.Mathlib.Omega.{arith}
use Rattle.std.specs.List.{list_any, range_with_len}
use Rattle.std.proofs.lemmas.List.{take_all}
use Rattle.std.proofs.lemmas.List.FromFn.{length-range_with_len, get_or-range_with_len}
use Rattle.model.specs.Parts.{any_below}
use Rattle.model.specs.Permutation.{member, missing}
use Rattle.model.proofs.Below.{list_any-below}

-- The numbers below n.
pub list_any-range : (f : ℕ → Bool) (n : ℕ) → list_any f (range_with_len 0 n) ≡ any_below f n
list_any-range f n =
    rw (← take_all n (range_with_len 0 n) (simp length-range_with_len (omega arith)))
    (list_any-below f f (range_with_len 0 n) n (simp length-range_with_len (omega arith))
    (λ i l. ap f (get_or-range_with_len 0 n i 0 l ∙ zero-add i)))

-- Whether a slice is missing.
pub any_below-missing : (n : ℕ) (perm : List ℕ) → any_below (λ i. not (member i perm)) n ≡ missing n perm
unfolding any_below
any_below-missing zero perm = refl
any_below-missing (suc n) perm = ap (λ (b : Bool). b || not (member n perm)) (any_below-missing n perm)
