-- Tests that decide conditions. Assumes nothing.
use Prim.Native.Nat.{ℕ, zero, suc, ◌≤◌, ◌<◌}
use mathlib.Core.Path.{◌≡◌, refl, sym, subst, ◌∙◌}
use mathlib.Core.Logic.{◌⊎◌, inl, inr, ⊎_elim}
use mathlib.Core.Bool.{Bool, true, false, not, ◌||◌, ◌&&◌, false≢true}
use native.Mathlib.Nat.{eq-or-lt_of_le, le_of_suc-le-suc}
use native.Mathlib.Omega.{arith}
use lib.Dec.{ltb, leb, eqb}
use borrow.Author.Tests.{ltb-true, ltb-false, leb-true, leb-false, eqb-true, eqb-false}
use Rattle.model.specs.Parts.{choose, any_below}

-- A test that is true exactly where A holds.
pub data Reflects (A : Type 0) : Bool → Type 0 where
  holds : A → Reflects A true
  fails : (A → ⊥) → Reflects A false

decided : {A : Type 0} (b : Bool) → (b ≡ true → A) → (b ≡ false → A → ⊥) → Reflects A b
decided true f g = holds (f refl)
decided false f g = fails (g refl)

pub ltb_reflects : (m n : ℕ) → Reflects (m < n) (ltb m n)
ltb_reflects m n = decided (ltb m n) (ltb-true m n) (λ e l. omega (arith, ltb-false m n e))

pub leb_reflects : (m n : ℕ) → Reflects (m ≤ n) (leb m n)
leb_reflects m n = decided (leb m n) (leb-true m n) (λ e l. omega (arith, leb-false m n e))

pub eqb_reflects : (m n : ℕ) → Reflects (m ≡ n) (eqb m n)
eqb_reflects m n = decided (eqb m n) (eqb-true m n) (eqb-false m n)

pub bool_reflects : (b : Bool) → Reflects (b ≡ true) b
bool_reflects b = decided b (λ e. e) (λ e q. absurd (false≢true (sym e ∙ q)))

pub reflects_map : {A B : Type 0} {b : Bool} → (A → B) → (B → A) → Reflects A b → Reflects B b
reflects_map to from (holds a) = holds (to a)
reflects_map to from (fails f) = fails (λ b. f (from b))

-- What is tested and does not fail holds.
pub reflects_stable : {A : Type 0} {b : Bool} → Reflects A b → ((A → ⊥) → ⊥) → A
reflects_stable (holds a) k = a
reflects_stable (fails f) k = absurd (k f)

pub choose_reflects : {A C : Type 0} {b : Bool} (P : A → Type 0) (x y : A) → Reflects C b → (C → P x) → ((C → ⊥) → P y) → P (choose b x y)
choose_reflects P x y (holds c) f g = f c
choose_reflects P x y (fails k) f g = g k

pub or_reflects : {A B : Type 0} {b c : Bool} → Reflects A b → Reflects B c → Reflects (A ⊎ B) (b || c)
or_reflects (holds a) r = holds (inl a)
or_reflects (fails f) (holds b) = holds (inr b)
or_reflects (fails f) (fails g) = fails (⊎_elim f g)

pub and_reflects : {A B : Type 0} {b c : Bool} → Reflects A b → Reflects B c → Reflects (A × B) (b && c)
and_reflects (holds a) (holds b) = holds (a, b)
and_reflects (holds a) (fails g) = fails (λ ab. g ab.1)
and_reflects (fails f) r = fails (λ ab. f ab.0)

-- ---- tests that are true where a condition fails

-- A test that is true exactly where P fails.
pub data Refutes (P : Type 0) : Bool → Type 0 where
  passes : P → Refutes P false
  refutes : (P → ⊥) → Refutes P true

pub refuted : {P : Type 0} (b : Bool) → (b ≡ true → P → ⊥) → (b ≡ false → P) → Refutes P b
refuted true f g = refutes (f refl)
refuted false f g = passes (g refl)

pub refutes_passed : {P : Type 0} {b : Bool} → Refutes P b → b ≡ false → P
refutes_passed (passes p) e = p
refutes_passed (refutes f) e = absurd (false≢true (sym e))

-- What is tested and does not fail holds.
pub refutes_stable : {P : Type 0} {b : Bool} → Refutes P b → ((P → ⊥) → ⊥) → P
refutes_stable (passes p) k = p
refutes_stable (refutes f) k = absurd (k f)

pub not_refutes : {P : Type 0} {b : Bool} → Reflects P b → Refutes P (not b)
not_refutes (holds p) = passes p
not_refutes (fails f) = refutes f

pub ltb_refutes : (m n : ℕ) → Refutes (n ≤ m) (ltb m n)
ltb_refutes m n = refuted (ltb m n) (λ e l. omega (arith, ltb-true m n e)) (ltb-false m n)

pub refutes_map : {P Q : Type 0} {b : Bool} → (P → Q) → (Q → P) → Refutes P b → Refutes Q b
refutes_map to from (passes p) = passes (to p)
refutes_map to from (refutes f) = refutes (λ q. f (from q))

pub or_refutes : {P Q : Type 0} {b c : Bool} → Refutes P b → Refutes Q c → Refutes (P × Q) (b || c)
or_refutes (refutes f) r = refutes (λ pq. f pq.0)
or_refutes (passes p) (refutes f) = refutes (λ pq. f pq.1)
or_refutes (passes p) (passes q) = passes (p, q)

pub choose_refutes : {A C : Type 0} {b : Bool} (P : A → Type 0) (x y : A) → Refutes C b → ((C → ⊥) → P x) → (C → P y) → P (choose b x y)
choose_refutes P x y (refutes k) f g = f k
choose_refutes P x y (passes c) f g = g c

-- Every number below n has the property.
abbrev pub Below : (n : ℕ) → (ℕ → Type 0) → Type 0
Below n P = (m : ℕ) → m < n → P m

pub below_zero_refutes : (P : ℕ → Type 0) → Refutes (Below 0 P) false
below_zero_refutes P = passes (λ m l. absurd (omega arith))

-- One number more: what was tested of those below n, and what is tested of n.
pub below_suc_refutes : (P : ℕ → Type 0) (n : ℕ) {b c : Bool} → Refutes (Below n P) b → Refutes (P n) c → Refutes (Below (suc n) P) (b || c)
below_suc_refutes P n r q = refutes_map more fewer (or_refutes r q)
  where
    more : Below n P × P n → Below (suc n) P
    more k m l = ⊎_elim (λ e. subst P (sym e) k.1) (k.0 m) (eq-or-lt_of_le (le_of_suc-le-suc l))

    fewer : Below (suc n) P → Below n P × P n
    fewer k = (λ m l. k m (omega arith), k n (omega arith))

-- A test that finds the numbers below n where P fails.
pub any_below_refutes : (P : ℕ → Type 0) (f : ℕ → Bool) → ((m : ℕ) → Refutes (P m) (f m)) → (n : ℕ) → Refutes (Below n P) (any_below f n)
unfolding any_below
any_below_refutes P f each zero = below_zero_refutes P
any_below_refutes P f each (suc n) = below_suc_refutes P n (any_below_refutes P f each n) (each n)
