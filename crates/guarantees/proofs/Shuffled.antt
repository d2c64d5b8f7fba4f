-- Point 1 for a shuffle. Assumes nothing.
use Prim.Native.Nat.{ℕ, zero, suc, ◌-◌, ◌*◌, ◌≤◌}
use mathlib.Core.Path.{◌≡◌, refl, sym, ap, ◌∙◌}
use mathlib.Core.Logic.{⊎_elim}
use mathlib.Core.List.{List, [], ◌∷◌}
use native.Mathlib.Omega.{arith}
use lib.ListN.{length, drop, length-drop, take-append-drop}
use lib.Dec.{ltb}
use borrow.Author.Tests.{lt-ltb, le-ltb}
use Rattle.refusals.specs.Numbers.{refuse}
use Rattle.model.specs.declared.Geometry.{Geometry}
use Rattle.model.specs.Geometry.{Allowed}
use Rattle.model.specs.Session.{LentResult, unless}
use Rattle.model.specs.Conditions.{DrawnFrom, EnoughDraws}
use Rattle.model.specs.Shuffle.{in_order, ordering, draws, Run, Accepted, Ended, run, shuffle_refusal, shuffled, shuffle_model}
use Rattle.model.proofs.Tests.{below}
use Rattle.model.proofs.Shuffles.{ordering_shuffles, Found, found, ended, run-found, drawing_run}
use Rattle.guarantees.specs.Rules.{rule, First, shuffle_rules}
use Rattle.guarantees.specs.Points.{ShuffleAnswered}
use Rattle.guarantees.proofs.Orders.{bad_geometry_guards, differ_guards}
use Rattle.guarantees.proofs.Chains.{Leads, here, later, none, leads-first, leads-append, Comes, stopped, through, comes_rest, comes_row}

module _ (g : Geometry) (list : ℕ) (tape : List ℕ) (position : ℕ) where
  -- The places that are drawn for, and the tape from the position on.
  abbrev i : ℕ
  i = g.p - 1

  abbrev left : List ℕ
  left = drop position tape

  abbrev Answered : LentResult → Type 0
  Answered = ShuffleAnswered g list tape position

  -- Draws from the position on are what the run comes to.
  drawn_run : (accepted : List ℕ) (n : ℕ) → DrawnFrom tape position i accepted n → (m : ℕ) × (run i (draws left) ≡ Accepted accepted m)
  drawn_run accepted n d =
      let r = drawing_run d.bytes (drop n left) in
      (r.0, ap (λ (l : List ℕ). run i (draws l)) (sym (take-append-drop n left)) ∙ r.2)

  too_few : run i (draws left) ≡ Ended → EnoughDraws tape position i → ⊥
  too_few e k =
      let r = drawn_run k.0 k.1 k.2 in
      let differ : ◌≡◌ {A = Run} Ended (Accepted k.0 r.0) = sym e ∙ r.1 in
      let z : ◌≡◌ {A = ℕ} 0 1 = cc in
      absurd (omega arith)

  -- Where 1 and 4 do not apply.
  module _ (allowed : Allowed g) (long : list ≡ g.p) where
    past : {n : ℕ} → Leads (rule 21 (EnoughDraws tape position i → ⊥) ∷ []) n 0 → First (shuffle_rules g list tape position) n 0
    past q = leads-first (later (λ f. f allowed) (later (λ f. f long) q))

    drawn : position ≤ length tape → (r : Run) → run i (draws left) ≡ r → Found i left r → Answered (shuffled i (in_order g.p) position r)
    drawn inside (Accepted ds n) e (found _ _ l k q) =
        let d : DrawnFrom tape position i ds (2 * n) = record { inside = omega (arith, inside, l, length-drop position tape); bytes = q } in
        ShuffleAnswered.served (past (later (λ f. f (ds, 2 * n, d)) none)) ds (2 * n) d (ordering g.p ds) (ordering_shuffles g.p ds k)
    drawn inside Ended e ended = ShuffleAnswered.refused 21 (omega arith) (past (here (too_few e) refl refl))

    abbrev answer : ℕ → LentResult
    answer r = unless r LentResult.Refused (shuffled i (in_order g.p) position (run i (draws left)))

    tested : Answered (answer (refuse (ltb (length tape) position) 21 0))
    unfolding refuse
    tested =
        ⊎_elim
        (λ l. rw (lt-ltb (length tape) position l)
        (ShuffleAnswered.refused 21 (omega arith) (past (here (λ k. omega (arith, l, k.2.inside)) refl refl))))
        (λ l. rw (le-ltb (length tape) position l) (drawn l (run i (draws left)) refl (run-found i left)))
        (below (length tape) position)

  refused : (r : ℕ) → (r ≡ 0 → ⊥) → Leads (rule 1 (Allowed g → ⊥) ∷ rule 4 (list ≡ g.p → ⊥) ∷ []) r 0
      → Answered (unless r LentResult.Refused (shuffled i (in_order g.p) position (run i (draws left))))
  refused zero ne first = absurd (ne refl)
  refused (suc r) ne first =
      ShuffleAnswered.refused (suc r) ne (leads-first (leads-append (rule 21 (EnoughDraws tape position i → ⊥) ∷ []) ne first))

  pub shuffle_answered : Answered (shuffle_model g list tape position)
  unfolding shuffle_model shuffle_refusal
  shuffle_answered = go (comes_row (bad_geometry_guards 1 g) (comes_row (differ_guards 4 list g.p) comes_rest))
    where
      go : {r : ℕ}
          → Comes (rule 1 (Allowed g → ⊥) ∷ rule 4 (list ≡ g.p → ⊥) ∷ []) (Allowed g × ((list ≡ g.p) × Unit))
          (refuse (ltb (length tape) position) 21 0) r
          → Answered (unless r LentResult.Refused (shuffled i (in_order g.p) position (run i (draws left))))
      go {r} (stopped ne first) = refused r ne first
      go (through first known) = tested known.0 known.1.0
