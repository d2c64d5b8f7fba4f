-- Laws of loading entries into the tables, a run of them after another. Assumes nothing.
use Prim.Native.Nat.{ℕ, zero, suc, ◌+◌, ◌/◌, ◌%◌, ◌≤◌, ◌<◌}
use mathlib.Core.Path.{◌≡◌, refl, sym, ap, ap₂, ◌∙◌, subst}
use mathlib.Core.Bool.{Bool, true, false}
use mathlib.Core.List.{List}
use native.Mathlib.Nat.{zero-add, add-zero, suc-add, add-suc}
use native.Mathlib.Omega.{arith}
use lib.Dec.{eqb}
use lib.ListN.{get_or, set}
use Rattle.refusals.specs.declared.Refusal.{Refusal}
use Rattle.refusals.specs.Numbers.{refusal_number}
use Rattle.refusals.proofs.Positive.{refusal_positive}
use Rattle.model.specs.Parts.{choose}
use Rattle.model.specs.Geometry.{count_in}
use Rattle.model.specs.Session.{unmapped, placed}
use Rattle.model.specs.Opening.{Loaded, Tables, Spoilt, settle, load}
use Rattle.tables.specs.Settled.{Settled}

-- ---- what is settled

pub settled_tables : (l : Loaded) (n : ℕ) (maps owners : List ℕ) → Settled l n maps owners → n ≡ 0 → l ≡ Tables maps owners
settled_tables (Tables m o) n maps owners (e, q, t) z = ap₂ Tables (sym q) (sym t)
settled_tables (Spoilt r) n maps owners (e, q) z = absurd (q z)

pub settled_spoilt : (l : Loaded) (n : ℕ) (maps owners : List ℕ) → Settled l n maps owners → (n ≡ 0 → ⊥) → l ≡ Spoilt n
settled_spoilt (Tables m o) n maps owners (e, q, t) h = absurd (h e)
settled_spoilt (Spoilt r) n maps owners (e, q) h = ap Spoilt (sym e)

tables_settled : {l : Loaded} {maps owners : List ℕ} → l ≡ Tables maps owners → Settled l 0 maps owners
tables_settled e = rw e (refl, refl, refl)

spoilt_settled : {l : Loaded} (n : ℕ) (maps owners : List ℕ) → l ≡ Spoilt n → (n ≡ 0 → ⊥) → Settled l n maps owners
spoilt_settled n maps owners e h = rw e (refl, h)

pub settled_by : {l k : Loaded} → l ≡ k → (n : ℕ) (maps owners : List ℕ) → Settled l n maps owners → Settled k n maps owners
settled_by e n maps owners h = subst (λ (t : Loaded). Settled t n maps owners) e h

-- ---- one run after another

-- What follows where nothing is spoilt.
unfoldable and_then : Loaded → (List ℕ → List ℕ → Loaded) → Loaded
and_then (Tables m o) more = more m o
and_then (Spoilt n) more = Spoilt n

and_then_tables : {l : Loaded} {maps owners : List ℕ} (more : List ℕ → List ℕ → Loaded) → l ≡ Tables maps owners
    → and_then l more ≡ more maps owners
unfolding and_then
and_then_tables more e = rw e

and_then_spoilt : {l : Loaded} {n : ℕ} (more : List ℕ → List ℕ → Loaded) → l ≡ Spoilt n → and_then l more ≡ Spoilt n
unfolding and_then
and_then_spoilt more e = rw e

module _ (p : ℕ) (counts : List ℕ) where
  settle_then : (x n : ℕ) (maps owners : List ℕ) (more : List ℕ → List ℕ → Loaded)
      → settle p counts x n maps owners more ≡ and_then (settle p counts x n maps owners Tables) more
  unfolding and_then
  settle_then x n maps owners more = by_tests (eqb x unmapped) (placed p (count_in counts (n / p)) (n % p) x) (eqb (get_or owners x 0) 0)
    where
      settled : (a b c : Bool) → (List ℕ → List ℕ → Loaded) → Loaded
      settled a b c next =
          choose a (next maps owners) (choose b (choose c (next (set maps n x) (set owners x (n / p + 1))) (Spoilt 10)) (Spoilt 9))

      by_tests : (a b c : Bool) → settled a b c more ≡ and_then (settled a b c Tables) more
      by_tests true b c = refl
      by_tests false false c = refl
      by_tests false true true = refl
      by_tests false true false = refl

  module _ (f : ℕ → ℕ) where
    load_done : (left n : ℕ) (maps owners : List ℕ) → left ≡ 0 → load p counts f left n maps owners ≡ Tables maps owners
    unfolding load
    load_done left n maps owners e = rw e

    -- A run of one entry.
    pub load_one : (n : ℕ) (maps owners : List ℕ) → load p counts f 1 n maps owners ≡ settle p counts (f n) n maps owners Tables
    unfolding load and_then
    load_one n maps owners =
        settle_then (f n) n maps owners (load p counts f 0 (suc n)) ∙ go (settle p counts (f n) n maps owners Tables)
      where
        go : (l : Loaded) → and_then l (load p counts f 0 (suc n)) ≡ l
        go (Tables m o) = refl
        go (Spoilt r) = refl

    -- A run in two parts.
    load_run : (a b n : ℕ) (maps owners : List ℕ)
        → load p counts f (a + b) n maps owners ≡ and_then (load p counts f a n maps owners) (load p counts f b (n + a))
    unfolding load and_then
    load_run zero b n maps owners = ap₂ (λ (j k : ℕ). load p counts f j k maps owners) (zero-add b) (sym (add-zero n))
    load_run (suc a) b n maps owners =
        ap (λ (k : ℕ). load p counts f k n maps owners) (suc-add a b)
        ∙ settle_then (f n) n maps owners (load p counts f (a + b) (suc n))
        ∙ go (λ m o. load_run a b (suc n) m o) (settle p counts (f n) n maps owners Tables)
        ∙ ap (λ (l : Loaded). and_then l (load p counts f b (n + suc a))) (sym (settle_then (f n) n maps owners (load p counts f a (suc n))))
      where
        go : ((m o : List ℕ) → load p counts f (a + b) (suc n) m o ≡ and_then (load p counts f a (suc n) m o) (load p counts f b (suc n + a)))
            → (l : Loaded) → and_then l (load p counts f (a + b) (suc n))
            ≡ and_then (and_then l (load p counts f a (suc n))) (load p counts f b (n + suc a))
        go ih (Tables m o) =
            ih m o ∙ ap (λ (k : ℕ). and_then (load p counts f a (suc n) m o) (load p counts f b k)) (suc-add n a ∙ sym (add-suc n a))
        go ih (Spoilt r) = refl

    -- The first part of what is left of a run: where it is spoilt, so is the run; else the rest goes on from the tables so far.
    module _ (a b n : ℕ) (maps owners maps' owners' : List ℕ) {whole : Loaded} {left : ℕ} (so_far : whole ≡ load p counts f left n maps owners)
        (parts : left ≡ a + b) where
      next : whole ≡ and_then (load p counts f a n maps owners) (load p counts f b (n + a))
      next = so_far ∙ ap (λ (k : ℕ). load p counts f k n maps owners) parts ∙ load_run a b n maps owners

      pub part_spoilt : (r : Refusal) → Settled (load p counts f a n maps owners) (refusal_number r) maps' owners'
          → Settled whole (refusal_number r) maps' owners'
      part_spoilt r settled =
          let h : refusal_number r ≡ 0 → ⊥ = λ e. omega (arith, refusal_positive r) in
          spoilt_settled _ maps' owners' (next ∙ and_then_spoilt _ (settled_spoilt _ _ maps' owners' settled h)) h

      pub part_loaded : Settled (load p counts f a n maps owners) 0 maps' owners' → whole ≡ load p counts f b (n + a) maps' owners'
      part_loaded settled = next ∙ and_then_tables _ (settled_tables _ 0 maps' owners' settled refl)

    -- A run of which nothing is left.
    pub run_done : {whole : Loaded} (left n : ℕ) (maps owners : List ℕ) → whole ≡ load p counts f left n maps owners → left ≡ 0
        → Settled whole 0 maps owners
    run_done left n maps owners so_far e = tables_settled (so_far ∙ load_done left n maps owners e)

  -- Only the entries of the run matter.
  pub load_cong : (f g : ℕ → ℕ) (c n : ℕ) (maps owners : List ℕ) → ((i : ℕ) → n ≤ i → i < n + c → f i ≡ g i)
      → load p counts f c n maps owners ≡ load p counts g c n maps owners
  unfolding load and_then
  load_cong f g zero n maps owners h = refl
  load_cong f g (suc c) n maps owners h =
      settle_then (f n) n maps owners (load p counts f c (suc n))
      ∙ ap (λ (x : ℕ). and_then (settle p counts x n maps owners Tables) (load p counts f c (suc n))) (h n (omega arith) (omega arith))
      ∙ go (λ m o. load_cong f g c (suc n) m o (λ i u v. h i (omega arith) (omega arith))) (settle p counts (g n) n maps owners Tables)
      ∙ sym (settle_then (g n) n maps owners (load p counts g c (suc n)))
    where
      go : ((m o : List ℕ) → load p counts f c (suc n) m o ≡ load p counts g c (suc n) m o) → (l : Loaded)
          → and_then l (load p counts f c (suc n)) ≡ and_then l (load p counts g c (suc n))
      go ih (Tables m o) = ih m o
      go ih (Spoilt r) = refl
