-- What a close leaves, whatever the tape position, by what its test says. Assumes nothing.
use Prim.Native.Nat.{ℕ}
use mathlib.Core.Path.{◌≡◌, refl, ap, ◌∙◌}
use mathlib.Core.List.{List}
use lib.ListN.{length, replicate}
use Rattle.std.specs.Prelude.{Result, Ok, Err}
use Rattle.refusals.specs.Numbers.{answer_number}
use Rattle.refusals.specs.declared.Refusal.{Refusal}
use Rattle.refusals.proofs.Positive.{refusal_positive}
use Rattle.model.specs.declared.Session.{Session}
use Rattle.model.specs.Parts.{patched}
use Rattle.model.specs.Session.{held, unmapped, standing}
use Rattle.model.specs.Close.{CloseResult, closed_session, close_model}
use Rattle.model.specs.Answers.{close_result, Leaves}
use Rattle.model.proofs.Requests.{standing_none}
use Rattle.model.proofs.Order.{unless_refused_lem}

module _ (device maps owners : List ℕ) (s : Session) where
  -- What a close has to leave on tables and session.
  abbrev Right : Result Unit Refusal → (maps owners : List ℕ) → Session → Type 0
  Right result maps' owners' s' =
      (position : ℕ)
      → Leaves CloseResult (close_model (length device) (held maps owners position s)) device (close_result result) device maps' owners' position s'

  module _ {bad : Result Unit Refusal} (refusals : answer_number bad ≡ standing (length device) (length maps) (length owners) s 0) where
    pub close_refused : {r : Refusal} → bad ≡ Err r → Right (Err r) maps owners s
    unfolding close_model patched
    close_refused {r = r} q position =
        rw (← refusals, q, unless_refused_lem _ _ _ (refusal_positive r))
        (record { answered = refl; stored = refl; mapped = refl; owned = refl; moved = refl; handed = refl })

    pub close_served : {u : Unit} → bad ≡ Ok u → {maps' owners' : List ℕ} {s' : Session} → maps' ≡ replicate (length maps) unmapped
        → owners' ≡ replicate (length owners) 0 → s' ≡ closed_session s → Right (Ok u) maps' owners' s'
    unfolding close_model patched
    close_served q m o h position =
        let none : standing (length device) (length maps) (length owners) s 0 ≡ 0 = rw (← refusals, q) refl in
        let tables = (standing_none _ _ _ _ _ none).0.tables in
        rw none
        (record {
          answered = refl;
          stored = refl;
          mapped = m ∙ ap (λ (n : ℕ). replicate n unmapped) tables.0;
          owned = o ∙ ap (λ (n : ℕ). replicate n 0) tables.1;
          moved = refl;
          handed = h;
        })
