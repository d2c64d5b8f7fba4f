-- Chains of tests: the number that a chain gives is that of the first rule that holds. Assumes nothing.
use Prim.Native.Nat.{ℕ, suc}
use mathlib.Core.Path.{◌≡◌, refl, sym, ap, ◌∙◌}
use mathlib.Core.Logic.{inl, inr}
use mathlib.Core.Bool.{Bool, true, false, ◌||◌}
use mathlib.Core.List.{List, [], ◌∷◌, ◌++◌}
use native.Mathlib.Omega.{arith}
use lib.Dec.{eqb}
use borrow.Author.Tests.{eqb-false}
use Rattle.refusals.specs.Numbers.{refuse}
use Rattle.model.proofs.Tests.{or_false}
use Rattle.guarantees.specs.Rules.{Rule, rule, First}
use Rattle.guarantees.proofs.Reflects.{Reflects, holds, fails, Refutes, passes, refutes, refutes_map, or_refutes}

-- ---- lists of rules

-- First as a data type, so that the rules and the numbers need not be written.
pub data Leads : List Rule → (n c : ℕ) → Type 1 where
  here : {r : Rule} {rs : List Rule} {n c : ℕ} → r.holds → n ≡ r.number → c ≡ r.probes → Leads (r ∷ rs) n c
  later : {r : Rule} {rs : List Rule} {n c : ℕ} → (r.holds → ⊥) → Leads rs n c → Leads (r ∷ rs) n c
  none : Leads [] 0 0

pub leads-first : {rs : List Rule} {n c : ℕ} → Leads rs n c → First rs n c
unfolding First
leads-first (here a e d) = inl (a, e, d)
leads-first (later f q) = inr (f, leads-first q)
leads-first none = (refl, refl)

-- And back.
pub first-leads : (rs : List Rule) {n c : ℕ} → First rs n c → Leads rs n c
unfolding First
first-leads [] q = rw (q.0, q.1) none
first-leads (r ∷ rs) (inl q) = here q.0 q.1 q.2
first-leads (r ∷ rs) (inr q) = later q.0 (first-leads rs q.1)

-- A rule whose number is not the answer does not hold.
pub leads_passed : {r : Rule} {rs : List Rule} {n c : ℕ} → (n ≡ r.number → ⊥) → Leads (r ∷ rs) n c → (r.holds → ⊥) × Leads rs n c
leads_passed ne (here a e d) = absurd (ne e)
leads_passed ne (later f q) = (f, q)

-- A refusal by one of the rules is one by them and any after them.
pub leads-append : {rs : List Rule} (ss : List Rule) {n c : ℕ} → (n ≡ 0 → ⊥) → Leads rs n c → Leads (rs ++ ss) n c
leads-append ss ne (here a e d) = here a e d
leads-append ss ne (later f q) = later f (leads-append ss ne q)
leads-append ss ne none = absurd (ne refl)

-- No rule holds.
abbrev pub None : List Rule → Type 0
None [] = Unit
None (r ∷ rs) = (r.holds → ⊥) × None rs

-- Where no rule holds, nothing is refused.
pub leads_zero : {rs : List Rule} {n c : ℕ} → Leads rs n c → None rs → n ≡ 0
leads_zero (here a e d) k = absurd (k.0 a)
leads_zero (later f q) k = leads_zero q k.1
leads_zero none k = refl

pub none_leads : (rs : List Rule) {ss : List Rule} {n c : ℕ} → None rs → Leads ss n c → Leads (rs ++ ss) n c
none_leads [] k q = q
none_leads (r ∷ rs) k q = later k.0 (none_leads rs k.1 q)

-- No rule that has the number holds.
abbrev pub Barred : ℕ → List Rule → Type 0
Barred m [] = Unit
Barred m (r ∷ rs) = (m ≡ r.number → r.holds → ⊥) × Barred m rs

-- A rule with another number, before such as are barred; and a list of such rules.
pub skip : {m n : ℕ} {A B : Type 0} → eqb m n ≡ false → B → (m ≡ n → A → ⊥) × B
skip {m} {n} e rest = ((λ q a. eqb-false m n e q), rest)

abbrev pub numbered : ℕ → List Rule → Bool
numbered m [] = false
numbered m (r ∷ rs) = eqb m r.number || numbered m rs

pub others : (m : ℕ) (rs : List Rule) → numbered m rs ≡ false → Barred m rs
others m [] e = tt
others m (r ∷ rs) e = let q = or_false (eqb m r.number) (numbered m rs) e in skip q.0 (others m rs q.1)

-- A refusal by the rules has the number of one that holds.
pub leads_barred : {rs : List Rule} {m n c : ℕ} → Leads rs n c → Barred m rs → (m ≡ 0 → ⊥) → n ≡ m → ⊥
leads_barred (here a e d) k ne q = k.0 (sym q ∙ e) a
leads_barred (later f l) k ne q = leads_barred l k.1 ne q
leads_barred none k ne q = ne (sym q)

-- ---- chains of tests

-- t is one test that refuses by n where P fails, else gives the rest.
pub record Guards (t : ℕ → ℕ) (n : ℕ) (P : Type 0) : Type 0 where
  pub test : Bool
  pub decides : Refutes P test
  pub refuses : (rest : ℕ) → t rest ≡ refuse test n rest

pub refuse_guards : {P : Type 0} {b : Bool} (n : ℕ) → Refutes P b → Guards (refuse b n) n P
refuse_guards {b} n r = record { test = b; decides = r; refuses = λ rest. refl }

pub guards_map : {t : ℕ → ℕ} {n : ℕ} {P Q : Type 0} → (P → Q) → (Q → P) → Guards t n P → Guards t n Q
guards_map to from g = record { test = g.test; decides = refutes_map to from g.decides; refuses = g.refuses }

refuse_or : (b c : Bool) (n rest : ℕ) → refuse b n (refuse c n rest) ≡ refuse (b || c) n rest
unfolding refuse
refuse_or true c n rest = refl
refuse_or false c n rest = refl

-- Two tests with one number are a test of both conditions.
pub guards_both : {t u : ℕ → ℕ} {n : ℕ} {P Q : Type 0} → Guards t n P → Guards u n Q → Guards (λ rest. t (u rest)) n (P × Q)
guards_both {u} {n} g k =
    record {
      test = g.test || k.test;
      decides = or_refutes g.decides k.decides;
      refuses = λ rest. g.refuses (u rest) ∙ ap (refuse g.test n) (k.refuses rest) ∙ refuse_or g.test k.test n rest;
    }

-- One row of a chain is one rule of the list.
pub leads-refuse : {A : Type 0} {b : Bool} {rest : ℕ} {rs : List Rule} (n : ℕ) → Reflects A b → Leads rs rest 0
    → Leads (rule n A ∷ rs) (refuse b n rest) 0
unfolding refuse
leads-refuse n (holds a) q = here a refl refl
leads-refuse n (fails f) q = later f q

-- The rows after one that tests P may rely on it.
pub leads_given : {t : ℕ → ℕ} {n rest : ℕ} {P : Type 0} {rs : List Rule} → Guards t n P → (P → Leads rs rest 0)
    → Leads (rule n (P → ⊥) ∷ rs) (t rest) 0
unfolding refuse
leads_given {n} {rest} {P} {rs} g q = rw (g.refuses rest) (row g.decides)
  where
    row : {b : Bool} → Refutes P b → Leads (rule n (P → ⊥) ∷ rs) (refuse b n rest) 0
    row (refutes f) = here f refl refl
    row (passes p) = later (λ (f : P → ⊥). f p) (q p)

pub leads-row : {t : ℕ → ℕ} {n rest : ℕ} {P : Type 0} {rs : List Rule} → Guards t n P → Leads rs rest 0
    → Leads (rule n (P → ⊥) ∷ rs) (t rest) 0
leads-row g q = leads_given g (λ p. q)

-- ---- chains that go on past their rules

-- A chain of tests comes to the number of the first rule that holds, or, where none does and P is known, to what its rest says.
pub data Comes (rs : List Rule) (P : Type 0) (rest : ℕ) : (n : ℕ) → Type 1 where
  stopped : {n : ℕ} → (n ≡ 0 → ⊥) → Leads rs n 0 → Comes rs P rest n
  through : Leads rs 0 0 → P → Comes rs P rest rest

pub comes_map : {rs : List Rule} {P Q : Type 0} {rest n : ℕ} → (P → Q) → Comes rs P rest n → Comes rs Q rest n
comes_map f (stopped ne first) = stopped ne first
comes_map f (through first known) = through first (f known)

pub comes_rest : {rest : ℕ} → Comes [] Unit rest rest
comes_rest = through none tt

-- One row: its rule holds exactly where P fails.
pub comes_rule : {t : ℕ → ℕ} {n rest r : ℕ} {A P Q : Type 0} {rs : List Rule} → ((P → ⊥) → A) → (A → P → ⊥) → Guards t (suc n) P
    → Comes rs Q rest r → Comes (rule (suc n) A ∷ rs) (P × Q) rest (t r)
unfolding refuse
comes_rule {n} {rest} {r} {A} {P} {Q} {rs} fail hold g q = rw (g.refuses r) (row g.decides q)
  where
    row : {b : Bool} {m : ℕ} → Refutes P b → Comes rs Q rest m → Comes (rule (suc n) A ∷ rs) (P × Q) rest (refuse b (suc n) m)
    row (refutes f) k = stopped {n = suc n} (omega arith) (here (fail f) refl refl)
    row (passes p) (stopped ne first) = stopped ne (later (λ a. hold a p) first)
    row (passes p) (through first known) = through (later (λ a. hold a p) first) (p, known)

pub comes_row : {t : ℕ → ℕ} {n rest r : ℕ} {P Q : Type 0} {rs : List Rule} → Guards t (suc n) P → Comes rs Q rest r
    → Comes (rule (suc n) (P → ⊥) ∷ rs) (P × Q) rest (t r)
comes_row {P} = comes_rule (λ f. f) (λ (f : P → ⊥). f)
