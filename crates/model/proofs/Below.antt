-- Laws of a test of each number below n. Assumes nothing.
use Prim.Native.Nat.{ℕ, zero, suc, ◌<◌, ◌≤◌}
use mathlib.Core.Path.{◌≡◌, refl, sym, ap, ap₂, ◌∙◌}
use mathlib.Core.Bool.{Bool, true, false, ◌||◌, or-true}
use mathlib.Core.List.{List}
use mathlib.Core.Logic.{⊎_elim}
use native.Mathlib.Nat.{eq-or-lt_of_le, le_of_suc-le-suc}
use native.Mathlib.Numerals.{add-one}
use native.Mathlib.Omega.{arith}
use lib.ListN.{length, get_or, take}
use Rattle.std.specs.List.{list_any}
use Rattle.std.proofs.lemmas.List.Folds.{list_any_more}
use Rattle.model.specs.Parts.{any_below}
use Rattle.model.proofs.Tests.{or_false}

-- As the library tests the first n elements of a list.
pub list_any-below : (f g : ℕ → Bool) (xs : List ℕ) (n : ℕ) → n ≤ length xs → ((i : ℕ) → i < n → f (get_or xs i 0) ≡ g i)
    → list_any f (take n xs) ≡ any_below g n
unfolding any_below
list_any-below f g xs zero h same = refl
list_any-below f g xs (suc n) h same =
    rw (← add-one n) (list_any_more f xs n 0 (omega arith))
    ∙ ap₂ (λ (a b : Bool). a || b) (list_any-below f g xs n (omega arith) (λ i l. same i (omega arith))) (same n (omega arith))

pub any_below-found : (f : ℕ → Bool) (n i : ℕ) → i < n → f i ≡ true → any_below f n ≡ true
unfolding any_below
any_below-found f zero i l holds = absurd (omega arith)
any_below-found f (suc n) i l holds =
    ⊎_elim (λ e. ap (λ (b : Bool). any_below f n || b) (ap f (sym e) ∙ holds) ∙ or-true (any_below f n))
    (λ less. ap (λ (b : Bool). b || f n) (any_below-found f n i less holds))
    (eq-or-lt_of_le (le_of_suc-le-suc l))

-- None is found where all fail, and all fail where none is found.
pub any_below_none : (f : ℕ → Bool) (n : ℕ) → ((i : ℕ) → i < n → f i ≡ false) → any_below f n ≡ false
unfolding any_below
any_below_none f zero fails = refl
any_below_none f (suc n) fails =
    ap₂ (λ (a b : Bool). a || b) (any_below_none f n (λ i l. fails i (omega arith))) (fails n (omega arith))

pub any_below_fails : (f : ℕ → Bool) (n : ℕ) → any_below f n ≡ false → (i : ℕ) → i < n → f i ≡ false
unfolding any_below
any_below_fails f zero none i l = absurd (omega arith)
any_below_fails f (suc n) none i l =
    let each = or_false (any_below f n) (f n) none in
    ⊎_elim (λ e. ap f e ∙ each.1) (λ less. any_below_fails f n each.0 i less) (eq-or-lt_of_le (le_of_suc-le-suc l))
