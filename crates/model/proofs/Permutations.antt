-- A list of P numbers that names each of the P slices names nothing else, and none twice; and the place where it names one. Assumes
-- nothing.
use Prim.Native.Nat.{ℕ, zero, suc, ◌≤◌, ◌<◌}
use mathlib.Core.Path.{◌≡◌, refl, sym, ap, subst, ◌∙◌}
use mathlib.Core.Bool.{Bool, true, false}
use mathlib.Core.List.{List, [], ◌∷◌}
use mathlib.Core.Logic.{◌⊎◌, inl, inr, ⊎_elim}
use native.Mathlib.Omega.{arith}
use lib.ListN.{length, get_or}
use lib.Dec.{eqb}
use borrow.Author.Tests.{eqb-true, eqb-false}
use Rattle.model.specs.Parts.{choose}
use Rattle.model.specs.Permutation.{place_of}
use Rattle.model.specs.Conditions.{slice_at, Names}
use Rattle.model.proofs.Tests.{equal}

-- ---- each slice once

-- A number stands in a list.
data In (x : ℕ) : List ℕ → Type 0 where
  head : (ys : List ℕ) → In x (x ∷ ys)
  tail : (y : ℕ) (ys : List ℕ) → In x ys → In x (y ∷ ys)

at_in : (ys : List ℕ) (n : ℕ) → n < length ys → In (get_or ys n 0) ys
at_in [] n l = absurd (omega (arith, l))
at_in (y ∷ ys) zero l = head ys
at_in (y ∷ ys) (suc n) l = tail y ys (at_in ys n (omega (arith, l)))

-- What is left of a list without one place where a number stands.
abbrev without : {x : ℕ} {ys : List ℕ} → In x ys → List ℕ
without (head ys) = ys
without (tail y ys i) = y ∷ without i

without_length : {x : ℕ} {ys : List ℕ} (i : In x ys) → length ys ≡ suc (length (without i))
without_length (head ys) = refl
without_length (tail y ys i) = ap suc (without_length i)

without_keeps : {x z : ℕ} {ys : List ℕ} (i : In x ys) → In z ys → (z ≡ x) ⊎ In z (without i)
without_keeps (head ys) (head zs) = inl refl
without_keeps (head ys) (tail y zs j) = inr j
without_keeps (tail y ys i) (head zs) = inr (head (without i))
without_keeps (tail y ys i) (tail y' zs j) = ⊎_elim inl (λ k. inr (tail y (without i) k)) (without_keeps i j)

-- Without one place, what stands at another is left.
without_other : (ys : List ℕ) (n m : ℕ) → n < length ys → m < length ys → (n ≡ m → ⊥)
    → (here : In (get_or ys n 0) ys) × In (get_or ys m 0) (without here)
without_other [] n m ln lm ne = absurd (omega (arith, ln))
without_other (y ∷ ys) zero zero ln lm ne = absurd (ne refl)
without_other (y ∷ ys) zero (suc m) ln lm ne = (head ys, at_in ys m (omega (arith, lm)))
without_other (y ∷ ys) (suc n) zero ln lm ne = let here = at_in ys n (omega (arith, ln)) in (tail y ys here, head (without here))
without_other (y ∷ ys) (suc n) (suc m) ln lm ne =
    let rest = without_other ys n m (omega (arith, ln)) (omega (arith, lm)) (λ e. ne (ap suc e)) in
    (tail y ys rest.0, tail y (without rest.0) rest.1)

-- Every number below p stands in a list.
abbrev All : (p : ℕ) → List ℕ → Type 0
All p ys = (ψ : ℕ) → ψ < p → In ψ ys

-- Without the last of them the others stand in what is left.
all_without : (p : ℕ) (ys : List ℕ) (all : All (suc p) ys) (last : In p ys) → All p (without last)
all_without p ys all last ψ l = ⊎_elim (λ q. absurd (omega (arith, q, l))) (λ k. k) (without_keeps last (all ψ (omega (arith, l))))

-- They need as many places.
all_length : (p : ℕ) (ys : List ℕ) → All p ys → p ≤ length ys
all_length zero ys all = omega arith
all_length (suc p) ys all =
    let last = all p (omega arith) in
    omega (arith, all_length p (without last) (all_without p ys all last), without_length last)

all_below : (p : ℕ) (ys : List ℕ) → length ys ≡ p → All p ys → (z : ℕ) → In z ys → z < p
all_below zero ys e all z i = absurd (omega (arith, e, without_length i))
all_below (suc p) ys e all z i =
    let last = all p (omega arith) in
    let rest = all_below p (without last) (omega (arith, e, without_length last)) (all_without p ys all last) in
    ⊎_elim (λ q. omega (arith, q)) (λ k. omega (arith, rest z k)) (without_keeps last i)

module _ (p : ℕ) (perm : List ℕ) (names : Names p perm) where
  named : All p perm
  named ψ h = let e = names.each ψ h in subst (λ (y : ℕ). In y perm) e.2 (at_in perm e.0 e.1)

  -- No place names anything but a slice.
  pub names_below : (n : ℕ) → n < length perm → slice_at perm n < p
  names_below n l = all_below p perm names.places named (slice_at perm n) (at_in perm n l)

  -- No two places name one slice.
  pub names_once : (n m : ℕ) → n < length perm → m < length perm → slice_at perm n ≡ slice_at perm m → n ≡ m
  names_once n m ln lm e = ⊎_elim (λ q. q) (λ ne. absurd (twice ne)) (equal n m)
    where
      twice : (n ≡ m → ⊥) → ⊥
      twice ne =
          let other = without_other perm n m ln lm ne in
          let left : All p (without other.0) =
          λ ψ h. ⊎_elim (λ q. subst (λ (y : ℕ). In y (without other.0)) (sym (q ∙ e)) other.1) (λ k. k) (without_keeps other.0 (named ψ h)) in
          omega (arith, all_length p (without other.0) left, without_length other.0, names.places)

-- ---- the place of a slice

-- Where some place names it, its place is one that does, and the first.
pub record Placed (ψ : ℕ) (perm : List ℕ) (place : ℕ) : Type 0 where
  pub inside : place < length perm
  pub is : slice_at perm place ≡ ψ
  pub first : (n : ℕ) → n < length perm → slice_at perm n ≡ ψ → place ≤ n

pub place_of_first : (ψ : ℕ) (perm : List ℕ) (n : ℕ) → n < length perm → slice_at perm n ≡ ψ → Placed ψ perm (place_of ψ perm)
unfolding place_of
place_of_first ψ [] n l e = absurd (omega (arith, l))
place_of_first ψ (φ ∷ perm) n l e = go (place_of_first ψ perm) (eqb φ ψ) refl
  where
    -- A place that names it, where the first does not, is one of the rest.
    rest : (m : ℕ) → m < length (φ ∷ perm) → slice_at (φ ∷ perm) m ≡ ψ → (φ ≡ ψ → ⊥) → (k : ℕ) × (m ≡ suc k) × (k < length perm) × (slice_at perm k ≡ ψ)
    rest zero lm q ne = absurd (ne q)
    rest (suc m) lm q ne = (m, refl, omega (arith, lm), q)

    go : ((k : ℕ) → k < length perm → slice_at perm k ≡ ψ → Placed ψ perm (place_of ψ perm)) → (x : Bool) → eqb φ ψ ≡ x
        → Placed ψ (φ ∷ perm) (choose x 0 (suc (place_of ψ perm)))
    go later true q = record { inside = omega arith; is = eqb-true φ ψ q; first = λ m lm eq. omega arith }
    go later false q =
        let ne = eqb-false φ ψ q in
        let k = rest n l e ne in
        let r = later k.0 k.2 k.3 in
        record {
          inside = omega (arith, r.inside);
          is = r.is;
          first = λ m lm eq. let j = rest m lm eq ne in omega (arith, r.first j.0 j.2 j.3, j.1);
        }

pub names_place : (p : ℕ) (perm : List ℕ) (ψ : ℕ) → Names p perm → ψ < p → Placed ψ perm (place_of ψ perm)
names_place p perm ψ names l = let e = names.each ψ l in place_of_first ψ perm e.0 e.1 e.2
