-- Lists of quotients, numbered. Assumes nothing.
use Prim.Native.Nat.{ℕ, zero, suc, ◌+◌, ◌*◌, ◌/◌, ◌%◌, ◌<◌}
use mathlib.Core.Path.{◌≡◌, refl, ap, ap₂, ◌∙◌}
use mathlib.Core.List.{List, [], ◌∷◌}
use native.Mathlib.Omega.{arith}
use native.Mathlib.Nat.{div-add-mod', div-lt_iff_lt-mul, mod-lt, mul-le-mul_right, mul-zero}
use lib.Arith.{digits_div, digits_mod}
use Rattle.evenness.specs.Runs.{OneEach}
use Rattle.evenness.specs.Evenness.{Quotient, run_count}

-- The quotients of number m, for the places from i down to 1, and the number of quotients: the first counts most.
abbrev pub nth_quotients : (i m : ℕ) → List ℕ
nth_quotients zero m = []
nth_quotients (suc i) m = m / run_count i ∷ nth_quotients i (m % run_count i)

abbrev pub number_of : (i : ℕ) → List ℕ → ℕ
number_of zero qs = 0
number_of (suc i) [] = 0
number_of (suc i) (q ∷ qs) = q * run_count i + number_of i qs

-- A number below the count leaves none of the counts 0.
count_positive : (b n m : ℕ) → m < b * n → 0 < n
count_positive b zero m l = absurd (omega (arith, l, mul-zero b))
count_positive b (suc n) m l = omega arith

pub nth_suits : (i m : ℕ) → m < run_count i → OneEach Quotient i (nth_quotients i m)
unfolding run_count
nth_suits zero m l = tt
nth_suits (suc i) m l =
    let positive = count_positive (65536 / suc (suc i)) (run_count i) m l in
    ((div-lt_iff_lt-mul {k = run_count i} positive).1 l, nth_suits i (m % run_count i) (mod-lt m positive))

pub number_lt : (i : ℕ) (qs : List ℕ) → OneEach Quotient i qs → number_of i qs < run_count i
unfolding run_count
number_lt zero qs fit = omega arith
number_lt (suc i) [] fit = absurd fit
number_lt (suc i) (q ∷ qs) fit = omega (arith, number_lt i qs fit.1, mul-le-mul_right (run_count i) fit.0)

pub nth_number : (i : ℕ) (qs : List ℕ) → OneEach Quotient i qs → nth_quotients i (number_of i qs) ≡ qs
nth_number zero [] fit = refl
nth_number zero (q ∷ qs) fit = absurd fit
nth_number (suc i) [] fit = absurd fit
nth_number (suc i) (q ∷ qs) fit =
    let l = number_lt i qs fit.1 in
    ap₂ (λ (y : ℕ) (ys : List ℕ). y ∷ ys) (digits_div q l) (ap (nth_quotients i) (digits_mod q l) ∙ nth_number i qs fit.1)

pub number_nth : (i m : ℕ) → m < run_count i → number_of i (nth_quotients i m) ≡ m
unfolding run_count
number_nth zero m l = omega (arith, l)
number_nth (suc i) m l =
    let positive = count_positive (65536 / suc (suc i)) (run_count i) m l in
    ap (λ (k : ℕ). m / run_count i * run_count i + k) (number_nth i (m % run_count i) (mod-lt m positive)) ∙ div-add-mod' m (run_count i)
