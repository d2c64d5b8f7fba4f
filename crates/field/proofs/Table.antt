-- A rule that holds at each entry of a table, by one test over the whole of it. Assumes nothing.
use mathlib.Core.Path.{◌≡◌, subst}
use mathlib.Core.Bool.{Bool, true, false, ◌&&◌}
use mathlib.Core.List.{List, [], ◌∷◌}
use Prim.Native.Nat.{ℕ, zero, suc, ◌+◌, ◌<◌}
use native.Mathlib.Omega.{arith}
use lib.Dec.{T}
use lib.ListN.{length, get_or}

-- The test passes at each entry and its place, the first being place n.
abbrev pub all : (ℕ → ℕ → Bool) → ℕ → List ℕ → Bool
all test n [] = true
all test n (x ∷ xs) = test n x && all test (suc n) xs

and_parts : (a b : Bool) → T (a && b) → T a × T b
and_parts true b t = (tt, t)
and_parts false b t = absurd t

from_place : (test : ℕ → ℕ → Bool) (xs : List ℕ) (n : ℕ) → T (all test n xs) → (i : ℕ) → i < length xs → T (test (n + i) (get_or xs i 0))
from_place test [] n t i h = absurd (omega arith)
from_place test (x ∷ xs) n t zero h =
    let e : n ≡ n + 0 = omega arith in
    subst (λ (m : ℕ). T (test m x)) e (and_parts (test n x) (all test (suc n) xs) t).0
from_place test (x ∷ xs) n t (suc i) h =
    let e : suc n + i ≡ n + suc i = omega arith in
    subst (λ (m : ℕ). T (test m (get_or xs i 0))) e
    (from_place test xs (suc n) (and_parts (test n x) (all test (suc n) xs) t).1 i (omega arith))

pub at_each : (test : ℕ → ℕ → Bool) (xs : List ℕ) → T (all test 0 xs) → (i : ℕ) → i < length xs → T (test i (get_or xs i 0))
at_each test xs t i h =
    let e : 0 + i ≡ i = omega arith in
    subst (λ (m : ℕ). T (test m (get_or xs i 0))) e (from_place test xs 0 t i h)
