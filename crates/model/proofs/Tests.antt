-- Laws of tests, and of a geometry and an entry that pass them. Assumes nothing.
use Prim.Native.Nat.{ℕ, suc, ◌≤◌, ◌<◌, min}
use mathlib.Core.Path.{◌≡◌, refl, sym, ap, ◌∙◌}
use mathlib.Core.Bool.{Bool, true, false, not, ◌||◌, ◌&&◌, false≢true}
use mathlib.Core.Logic.{◌⊎◌, inl, inr, ⊎_elim}
use native.Mathlib.Nat.{eq-or-lt_of_le, min-eq_left, min-eq_right}
use native.Mathlib.Omega.{arith}
use lib.Dec.{ltb, eqb}
use borrow.Author.Tests.{ltb-true, ltb-false, eqb-true, eqb-false, not-false, eq-eqb, lt-ltb, le-ltb}
use Rattle.refusals.proofs.Refuse.{refuse_none, refuse_false}
use Rattle.model.specs.declared.Geometry.{Geometry}
use Rattle.model.specs.Geometry.{Allowed, bad_geometry, bad_count}
use Rattle.model.specs.Session.{unmapped, bad_entry, placed, bad_entry_at}
use Rattle.model.specs.Conditions.{CountFits}

-- ---- tests

pub or_true : (a b : Bool) → (a || b) ≡ true → (a ≡ true) ⊎ (b ≡ true)
or_true true b e = inl refl
or_true false b e = inr e

pub or_false : (a b : Bool) → (a || b) ≡ false → (a ≡ false) × (b ≡ false)
or_false true b e = absurd (false≢true (sym e))
or_false false b e = (refl, e)

pub and_true : (a b : Bool) → (a && b) ≡ true → (a ≡ true) × (b ≡ true)
and_true true b e = (refl, e)
and_true false b e = absurd (false≢true e)

pub below : (a b : ℕ) → (a < b) ⊎ (b ≤ a)
below a b = go (ltb a b) refl
  where
    go : (x : Bool) → ltb a b ≡ x → (a < b) ⊎ (b ≤ a)
    go true e = inl (ltb-true a b e)
    go false e = inr (ltb-false a b e)

pub three : (a b : ℕ) → (a < b) ⊎ ((a ≡ b) ⊎ (b < a))
three a b = ⊎_elim (λ l. inl l) (λ l. inr (⊎_elim (λ q. inl (sym q)) (λ m. inr m) (eq-or-lt_of_le l))) (below a b)

-- The lower of two numbers is one of them.
pub min_cases : (m n : ℕ) → ((m ≤ n) × (min m n ≡ m)) ⊎ ((n ≤ m) × (min m n ≡ n))
min_cases m n = ⊎_elim (λ l. let k : m ≤ n = omega (arith, l) in inl (k, min-eq_left k)) (λ l. inr (l, min-eq_right l)) (below m n)

pub lt_min : (m n : ℕ) {a : ℕ} → a < m → a < n → a < min m n
lt_min m n l k = ⊎_elim (λ q. rw q.1 l) (λ q. rw q.1 k) (min_cases m n)

pub equal : (a b : ℕ) → (a ≡ b) ⊎ (a ≡ b → ⊥)
equal a b = go (eqb a b) refl
  where
    go : (x : Bool) → eqb a b ≡ x → (a ≡ b) ⊎ (a ≡ b → ⊥)
    go true e = inl (eqb-true a b e)
    go false e = inr (eqb-false a b e)

pub equal_passes : (a b : ℕ) → a ≡ b → not (eqb a b) ≡ false
equal_passes a b e = ap not (eq-eqb a b e)

-- ---- geometry

pub bad_geometry_none : (number : ℕ) (g : Geometry) (rest : ℕ) → bad_geometry (suc number) g rest ≡ 0 → Allowed g × (rest ≡ 0)
unfolding bad_geometry
bad_geometry_none number g rest e =
    let p1 = refuse_none _ _ _ e in
    let p2 = refuse_none _ _ _ p1.1 in
    let p3 = refuse_none _ _ _ p2.1 in
    let p4 = refuse_none _ _ _ p3.1 in
    let p5 = refuse_none _ _ _ p4.1 in (
      record {
        block = ⊎_elim (λ q. inl (eqb-true _ _ q)) (λ q. inr (eqb-true _ _ q)) (or_true _ _ (not-false _ p1.0));
        slice_least = ltb-false _ _ p2.0;
        slice_most = ltb-false _ _ p3.0;
        slices_least = ltb-false _ _ p4.0;
        slices_most = ltb-false _ _ p5.0;
      },
      p5.1,
    )

pub bad_geometry_allowed : (number : ℕ) (g : Geometry) (rest : ℕ) → Allowed g → bad_geometry number g rest ≡ rest
unfolding bad_geometry
bad_geometry_allowed number g rest ok =
    refuse_false _ _ _ size
    ∙ refuse_false _ _ _ (le-ltb _ _ ok.slice_least)
    ∙ refuse_false _ _ _ (le-ltb _ _ ok.slice_most)
    ∙ refuse_false _ _ _ (le-ltb _ _ ok.slices_least)
    ∙ refuse_false _ _ _ (le-ltb _ _ ok.slices_most)
  where
    size : not (eqb g.b 1024 || eqb g.b 4096) ≡ false
    size = ⊎_elim (λ e. rw (eq-eqb g.b 1024 e) refl) (λ e. rw e refl) ok.block

-- ---- counts

pub bad_count_false : (p n : ℕ) → bad_count p n ≡ false → CountFits p n
bad_count_false p n e = let q = or_false (ltb n 1) (ltb p n) e in (ltb-false n 1 q.0, ltb-false p n q.1)

pub bad_count-fits : (p n : ℕ) → CountFits p n → bad_count p n ≡ false
bad_count-fits p n fits = rw (le-ltb n 1 fits.0, le-ltb p n fits.1) refl

-- ---- entries

or_right : (b : Bool) {c : Bool} → c ≡ true → (b || c) ≡ true
or_right true e = refl
or_right false e = e

pub bad_entry_false : (p x : ℕ) → bad_entry p x ≡ false → (x ≡ unmapped) ⊎ (x < p)
bad_entry_false p x e = ⊎_elim (λ q. inl (eqb-true _ _ q)) (λ q. inr (ltb-true _ _ q)) (or_true _ _ (not-false _ e))

-- An entry that is the mark or a slice is not bad.
pub bad_entry-fits : (p x : ℕ) → (x ≡ unmapped) ⊎ (x < p) → bad_entry p x ≡ false
bad_entry-fits p x w = ap not whole
  where
    whole : (eqb x unmapped || ltb x p) ≡ true
    whole = ⊎_elim (λ e. rw (eq-eqb x unmapped e) refl) (λ l. or_right (eqb x unmapped) (lt-ltb x p l)) w

-- The same at a logical slice of a volume with n of them (document 02, P4).
module _ (p n σ x : ℕ) where
  pub placed_true : placed p n σ x ≡ true → (x < p) × (σ < n)
  placed_true e = let q = and_true (ltb x p) _ e in (ltb-true x p q.0, ltb-true _ _ q.1)

  pub placed_below : x < p → σ < n → placed p n σ x ≡ true
  placed_below l m = rw (lt-ltb x p l, lt-ltb σ n m) refl

  pub bad_entry_at_false : bad_entry_at p n σ x ≡ false → (x ≡ unmapped) ⊎ ((x < p) × (σ < n))
  bad_entry_at_false e = ⊎_elim (λ q. inl (eqb-true _ _ q)) (λ q. inr (placed_true q)) (or_true _ _ (not-false _ e))

  pub bad_entry_at_fits : (x ≡ unmapped) ⊎ ((x < p) × (σ < n)) → bad_entry_at p n σ x ≡ false
  bad_entry_at_fits w = ap not whole
    where
      whole : (eqb x unmapped || placed p n σ x) ≡ true
      whole = ⊎_elim (λ e. rw (eq-eqb x unmapped e) refl) (λ l. or_right (eqb x unmapped) (placed_below l.0 l.1)) w
