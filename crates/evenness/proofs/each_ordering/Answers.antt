-- Each ordering arises from equally many runs of accepted draws. Assumes nothing.
use Prim.Native.Nat.{ℕ, ◌-◌, ◌<◌}
use mathlib.Core.Path.{◌≡◌, sym, ap, ◌∙◌}
use mathlib.Core.List.{List}
use native.Mathlib.Omega.{arith}
use lib.ListN.{get_or-eq_default}
use Rattle.model.specs.Conditions.{Names}
use Rattle.model.specs.Shuffle.{in_order, ordering}
use Rattle.model.proofs.Shuffles.{last_place, in_order_names, ordering_names}
use Rattle.evenness.specs.Runs.{AcceptedRun}
use Rattle.evenness.specs.Evenness.{Quotients, quotients_of, draws_of, run_count, Exactly}
use Rattle.evenness.proofs.Stages.{Place, Stage, draws_accepted, from_ordering, from_quotients, quotients_suit, from_run}
use Rattle.evenness.proofs.Counting.{nth_quotients, number_of, nth_suits, number_lt, nth_number, number_nth}
use Rattle.evenness.proofs.each_ordering.Goals as goal

module _ (p : ℕ) where
  abbrev i : ℕ
  i = p - 1

  at : Place p i
  at = last_place p

  -- Before the first exchange nothing has to agree: there is no place above the last.
  start : (perm : List ℕ) → Names p perm → Stage p i (in_order p) perm
  start perm names =
      record {
        left = in_order_names p;
        right = names;
        agree = λ n l.
            get_or-eq_default (in_order p) 0 (omega (arith, l, (in_order_names p).places))
            ∙ sym (get_or-eq_default perm 0 (omega (arith, l, names.places)));
      }

  abbrev draws_for : (perm qs : List ℕ) → List ℕ
  draws_for perm qs = draws_of i (in_order p) perm qs

  accepted : (perm qs : List ℕ) → Names p perm → Quotients p qs → AcceptedRun p (draws_for perm qs)
  accepted perm qs names fit = draws_accepted p i (in_order p) perm qs at (start perm names) fit

  orders : (perm qs : List ℕ) → Names p perm → Quotients p qs → ordering p (draws_for perm qs) ≡ perm
  orders perm qs names fit = from_ordering p i (in_order p) perm qs at (start perm names) fit

  quotients : (perm qs : List ℕ) → Names p perm → Quotients p qs → quotients_of i (draws_for perm qs) ≡ qs
  quotients perm qs names fit = from_quotients p i (in_order p) perm qs at (start perm names) fit

  again : (ds : List ℕ) → AcceptedRun p ds → draws_for (ordering p ds) (quotients_of i ds) ≡ ds
  again ds run = from_run p i (in_order p) ds at (in_order_names p) run

  equally : (perm : List ℕ) → Names p perm → Exactly (run_count i) (λ ds. AcceptedRun p ds × (ordering p ds ≡ perm))
  equally perm names =
      record {
        nth = λ m. draws_for perm (nth_quotients i m);
        has = λ m l.
            (accepted perm (nth_quotients i m) names (nth_suits i m l), orders perm (nth_quotients i m) names (nth_suits i m l));
        every = λ ds has.
            let fit = quotients_suit i ds has.0 in (
              number_of i (quotients_of i ds),
              number_lt i (quotients_of i ds) fit,
              ap (draws_for perm) (nth_number i (quotients_of i ds) fit)
                  ∙ ap (λ (o : List ℕ). draws_for o (quotients_of i ds)) (sym has.1)
                  ∙ again ds has.0,
            );
        once = λ m k lm lk e.
            let numbers : (n : ℕ) → n < run_count i → number_of i (quotients_of i (draws_for perm (nth_quotients i n))) ≡ n =
            λ n l. ap (number_of i) (quotients perm (nth_quotients i n) names (nth_suits i n l)) ∙ number_nth i n l in
            sym (numbers m lm) ∙ ap (λ (ds : List ℕ). number_of i (quotients_of i ds)) e ∙ numbers k lk;
      }

pub returns : goal.returns
returns c p =
    record {
      ordering_names = λ ds run. ordering_names p ds;
      quotients_suit = λ ds run. quotients_suit (p - 1) ds run;
      draws_accepted = accepted p;
      from_run = again p;
      from_ordering = orders p;
      from_quotients = quotients p;
      equally = equally p;
    }
