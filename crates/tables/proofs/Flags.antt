-- Laws of the flags of a permutation's slices. Assumes nothing.
use mathlib.Core.Path.{◌≡◌, refl, ◌∙◌}
use mathlib.Core.Bool.{Bool, true, false, not, ◌||◌}
use mathlib.Core.List.{List, [], ◌∷◌}
use Prim.Native.Nat.{ℕ, ◌+◌, ◌≤◌, ◌<◌}
use native.Mathlib.Numerals.{add-one}
use native.Mathlib.Omega.{arith}
use borrow.Author.Tests.{eqb-true, eqb-false}
use lib.ListN.{length, get_or, set, take, drop, drop_of_length-le, replicate, length-set, length-replicate, get_or-replicate}
use lib.Seq.{drop-cons, get_or-set_same, get_or-set_other}
use lib.Dec.{eqb}
use Rattle.model.specs.Parts.{choose}
use Rattle.model.specs.Permutation.{member, missing}
use Rattle.std.specs.List.{list_any}
use Rattle.tables.specs.Flagged.{flagged}
use Rattle.model.proofs.Below.{list_any-below}
use Rattle.tables.proofs.Below.{any_below-missing}

pub flagged_turn : (perm flags : List ℕ) (i : ℕ) → i < length perm
    → flagged (drop i perm) flags ≡ flagged (drop (i + 1) perm) (set flags (get_or perm i 0) 1)
unfolding flagged
flagged_turn perm flags i l = rw (drop-cons perm i 0, add-one i) refl

pub flagged_done : (perm flags : List ℕ) (i : ℕ) → length perm ≤ i → flagged (drop i perm) flags ≡ flags
unfolding flagged
flagged_done perm flags i past = rw (drop_of_length-le perm past) refl

-- A flag is 0 where it was and no slice is its own.
flagged_zero : (slices flags : List ℕ) (n : ℕ) → n < length flags
    → eqb (get_or (flagged slices flags) n 0) 0 ≡ choose (member n slices) false (eqb (get_or flags n 0) 0)
unfolding flagged
flagged_zero [] flags n l = refl
flagged_zero (ψ ∷ slices) flags n l = flagged_zero slices (set flags ψ 1) n (simp length-set l) ∙ go (eqb n ψ) refl
  where
    same : (m : Bool) → choose m false false ≡ false
    same true = refl
    same false = refl

    go : (b : Bool) → eqb n ψ ≡ b
        → choose (member n slices) false (eqb (get_or (set flags ψ 1) n 0) 0) ≡ choose (b || member n slices) false (eqb (get_or flags n 0) 0)
    go true e = rw (← eqb-true n ψ e, get_or-set_same flags n 1 0 l) (same (member n slices))
    go false e = rw (get_or-set_other flags ψ n 1 0 (eqb-false n ψ e)) refl

flagged_length : (slices flags : List ℕ) → length (flagged slices flags) ≡ length flags
unfolding flagged
flagged_length [] flags = refl
flagged_length (ψ ∷ slices) flags = flagged_length slices (set flags ψ 1) ∙ length-set flags ψ 1

pub flagged-missing : (perm : List ℕ) (m p : ℕ) → p ≤ m → list_any (λ y. eqb y 0) (take p (flagged perm (replicate m 0))) ≡ missing p perm
flagged-missing perm m p h =
    list_any-below (λ y. eqb y 0) (λ i. not (member i perm)) (flagged perm (replicate m 0)) p (simp (flagged_length, length-replicate) h)
    (λ i l. flagged_zero perm (replicate m 0) i (simp length-replicate (omega arith)) ∙ go i (omega arith) (member i perm))
    ∙ any_below-missing p perm
  where
    go : (i : ℕ) → i < m → (b : Bool) → choose b false (eqb (get_or (replicate m 0) i 0) 0) ≡ not b
    go i l true = refl
    go i l false = rw (get_or-replicate {A = ℕ} m i 0 0 l) refl
