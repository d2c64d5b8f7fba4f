-- Laws for the proof of `release`: what its refusals, its draw and its carrying out come to is the model's release. Assumes nothing.
--     carry_out_asks     what carrying out needs
--     release_ensures    what it leaves is what the model's release leaves
use Prim.Native.Nat.{ℕ, ◌+◌, ◌≤◌}
use mathlib.Core.Path.{◌≡◌, sym, ap, ◌∙◌}
use mathlib.Core.List.{List}
use native.Mathlib.Nat.{add-zero}
use lib.Dec.{lit≤}
use lib.ListN.{length}
use Rattle.std.specs.Prelude.{Result, Ok, Err}
use Rattle.refusals.specs.declared.Refusal.{Refusal}
use Rattle.refusals.specs.Numbers.{answer_number}
use Rattle.refusals.proofs.Positive.{refusal_positive}
use Rattle.model.specs.declared.Session.{Session}
use Rattle.model.specs.declared.Released.{Released}
use Rattle.model.specs.Parts.{part}
use Rattle.model.specs.Session.{held}
use Rattle.model.specs.Release.{ReleaseResult, release_refusal, release_model}
use Rattle.model.specs.Answers.{release_result, Leaves}
use Rattle.model.proofs.Parts.{part_part}
use Rattle.model.proofs.Requests.{release_refusal_none}
use Rattle.model.proofs.Order.{unless_refused_lem}
use Rattle.tape.specs.Draw.{drawn, past}
use Rattle.tape.proofs.Draws.{drawn_enough, drawn_length, past_enough, past_none}
use Rattle.freeing.specs.Carried.{needed, carried, Ready}

module _ (device maps owners perm tape : List ℕ) (at : ℕ) (s : Session) (i σ : ℕ) where
  abbrev refusal : ℕ
  refusal = release_refusal (length device) (held maps owners at s) i σ perm (length tape)

  enough : refusal ≡ 0 → at + 16 ≤ length tape
  enough e = (release_refusal_none (length device) (held maps owners at s) i σ perm (length tape) e).enough

  ready : (a : Result Unit Refusal) → answer_number a ≡ refusal → Ready a (length device) maps owners s i σ perm (length (drawn tape at (needed a)))
  ready (Ok u) e = record { position = at; tape = length tape; none = sym e; drawn_all = drawn_length tape at 16 (enough (sym e)) }
  ready (Err r) e = tt

  module _ (result : ReleaseResult) (device' maps' owners' : List ℕ) (s' : Session) where
    leaves : (a : Result Unit Refusal) → answer_number a ≡ refusal
        → Leaves ReleaseResult (carried a (held maps owners 0 s) i σ perm (drawn tape at (needed a))) device result device' maps' owners' (needed a) s'
        → Leaves ReleaseResult (release_model (length device) (held maps owners at s) i σ perm tape) device result device' maps' owners'
        (past tape at (needed a)) s'
    unfolding release_model
    leaves (Ok u) e l =
        let h = enough (sym e) in
        let bytes : part 0 16 (drawn tape at 16) ≡ part at 16 tape =
        ap (part 0 16) (drawn_enough tape at 16 h) ∙ part_part tape at 16 0 16 (lit≤ tt) ∙ ap (λ (n : ℕ). part n 16 tape) (add-zero at) in
        rw (← e)
        (record {
          answered = l.answered;
          stored = rw bytes at l.stored;
          mapped = l.mapped;
          owned = l.owned;
          moved = past_enough tape at 16 h;
          handed = l.handed;
        })
    leaves (Err r) e l =
        rw (← e, unless_refused_lem _ _ _ (refusal_positive r))
        (record { answered = l.answered; stored = l.stored; mapped = l.mapped; owned = l.owned; moved = past_none tape at; handed = l.handed })

  module _ (a : Result Unit Refusal) (refusals : answer_number a ≡ refusal) (n : ℕ) (need : n ≡ needed a) (bytes : List ℕ) (at' : ℕ)
      (draw : (bytes ≡ drawn tape at n) × (at' ≡ past tape at n)) where
    bytes_are : bytes ≡ drawn tape at (needed a)
    bytes_are = draw.0 ∙ ap (drawn tape at) need

    pub carry_out_asks : Ready a (length device) maps owners s i σ perm (length bytes)
    carry_out_asks = rw bytes_are (ready a refusals)

    pub release_ensures : (r : Released) (device' maps' owners' : List ℕ)
        → Leaves ReleaseResult (carried a (held maps owners 0 s) i σ perm bytes) device (release_result r.answer) device' maps' owners' (needed a)
        r.session
        → Leaves ReleaseResult (release_model (length device) (held maps owners at s) i σ perm tape) device (release_result r.answer) device' maps'
        owners' at' r.session
    release_ensures r device' maps' owners' l =
        rw (draw.1 ∙ ap (past tape at) need)
        (leaves (release_result r.answer) device' maps' owners' r.session a refusals (rw bytes_are at l))
