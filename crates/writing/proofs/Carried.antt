-- Laws for the proof of `write`: what a decision, its draw and its carrying out come to is the model's write. Assumes nothing.
--     need_asks          what the count of bytes needs, from what was decided
--     carry_out_asks     what carrying out needs, from what was decided and drawn
--     write_ensures      what it leaves is what the model's write leaves
use Prim.Native.Nat.{ℕ, ◌+◌, ◌≤◌}
use mathlib.Core.Path.{◌≡◌, refl, ap, ◌∙◌}
use mathlib.Core.List.{List}
use native.Mathlib.Nat.{zero-add, add-zero}
use native.Mathlib.Omega.{arith}
use lib.ListN.{length}
use Rattle.model.specs.declared.Session.{Session}
use Rattle.model.specs.declared.Written.{Written}
use Rattle.model.specs.Parts.{part}
use Rattle.model.specs.Session.{held}
use Rattle.model.specs.Write.{WriteResult, claim_need, write_model}
use Rattle.model.specs.Answers.{write_result, Leaves}
use Rattle.model.proofs.Parts.{part_part}
use Rattle.model.proofs.Bounds.{b_bounds}
use Rattle.model.proofs.Requests.{write_refusal_none}
use Rattle.tape.specs.Draw.{drawn, past}
use Rattle.tape.proofs.Draws.{drawn_enough, drawn_length, past_enough, past_none}
use Rattle.deciding.specs.declared.Decision.{Decision}
use Rattle.deciding.specs.declared.Decision.TheVariants.{Refused, Full, Rewrite, Claim}
use Rattle.deciding.specs.Decided.{Decided, Sized, needed, carried, Ready}

-- The bytes drawn, from their own position 0 on, are those of the tape from its position on: the first, and those behind them.
module _ (tape : List ℕ) (at n : ℕ) (h : at + n ≤ length tape) where
  drawn_part : (x m : ℕ) → x + m ≤ n → part x m (drawn tape at n) ≡ part (at + x) m tape
  drawn_part x m l = ap (part x m) (drawn_enough tape at n h) ∙ part_part tape at n x m l

  drawn_first : (m : ℕ) → m ≤ n → part 0 m (drawn tape at n) ≡ part at m tape
  drawn_first m l = drawn_part 0 m (omega (arith, l)) ∙ ap (λ (x : ℕ). part x m tape) (add-zero at)

  drawn_behind : (x m : ℕ) → x + m ≤ n → part (0 + x) m (drawn tape at n) ≡ part (at + x) m tape
  drawn_behind x m l = rw (zero-add x) (drawn_part x m l)

module _ (device : ℕ) (maps owners text perm tape : List ℕ) (s : Session) (i a at : ℕ) where
  abbrev Says : Decision → Type 0
  Says d = Decided device (held maps owners at s) i a text perm tape d

  sized : (d : Decision) → Says d → Sized s d
  sized (Refused r probes) e = tt
  sized Full e = tt
  sized (Rewrite ψ) e = tt
  sized (Claim ψ place) e = (b_bounds s.geometry (write_refusal_none _ _ _ _ _ _ _ _ e.0.none).stands.usable.allowed).1

  ready : (d : Decision) → Says d → Ready device maps owners s i a (length text) (length (drawn tape at (needed s d))) d
  ready (Refused r probes) e = tt
  ready Full e = e.1
  ready (Rewrite ψ) e =
      record { perm = length perm; none = e.none; slice = e.slice; drawn_all = drawn_length tape at 16 e.enough }
  ready (Claim ψ place) e = (
    record { perm = length perm; none = e.0.none; slice = e.0.slice; drawn_all = drawn_length tape at (claim_need s.geometry) e.0.enough },
    e.1,
  )

  module _ (before : List ℕ) (answer : WriteResult) (device' maps' owners' : List ℕ) (s' : Session) where
    leaves : (d : Decision) → Says d
        → Leaves WriteResult (carried (held maps owners 0 s) i a text (drawn tape at (needed s d)) d) before answer device' maps' owners'
        (needed s d) s'
        → Leaves WriteResult (write_model device (held maps owners at s) i a text perm tape) before answer device' maps' owners'
        (past tape at (needed s d)) s'
    leaves (Refused r probes) e l =
        rw e
        (record { answered = l.answered; stored = l.stored; mapped = l.mapped; owned = l.owned; moved = past_none tape at; handed = l.handed })
    leaves Full e l =
        rw e.0
        (record { answered = l.answered; stored = l.stored; mapped = l.mapped; owned = l.owned; moved = past_none tape at; handed = l.handed })
    leaves (Rewrite ψ) e l =
        rw e.outcome
        (record {
          answered = l.answered;
          stored = rw (drawn_first tape at 16 e.enough 16 (omega arith)) at l.stored;
          mapped = l.mapped;
          owned = l.owned;
          moved = past_enough tape at 16 e.enough;
          handed = l.handed;
        })
    leaves (Claim ψ place) e l =
        let b = s.geometry.b in
        let n = claim_need s.geometry in
        rw e.0.outcome
        (record {
          answered = l.answered;
          stored =
              rw (drawn_first tape at n e.0.enough b (omega arith), drawn_behind tape at n e.0.enough b 16 (omega arith)) at l.stored;
          mapped = l.mapped;
          owned = l.owned;
          moved = past_enough tape at n e.0.enough;
          handed = l.handed;
        })

module _ (device maps owners perm tape : List ℕ) (at : ℕ) (s : Session) (i a : ℕ) (text : List ℕ) (d : Decision)
    (decided : (t u : List ℕ) → length t ≡ length text → length u ≡ length tape → Decided (length device) (held maps owners at s) i a t perm u d) where
  pub need_asks : Sized s d
  need_asks = sized (length device) maps owners text perm tape s i a at d (decided text tape refl refl)

  module _ (n : ℕ) (need : n ≡ needed s d) (bytes : List ℕ) (at' : ℕ) (draw : (bytes ≡ drawn tape at n) × (at' ≡ past tape at n)) where
    bytes_are : bytes ≡ drawn tape at (needed s d)
    bytes_are = draw.0 ∙ ap (drawn tape at) need

    pub carry_out_asks : Ready (length device) maps owners s i a (length text) (length bytes) d
    carry_out_asks = rw bytes_are (ready (length device) maps owners text perm tape s i a at d (decided text tape refl refl))

    pub write_ensures : (w : Written) (device' maps' owners' : List ℕ)
        → Leaves WriteResult (carried (held maps owners 0 s) i a text bytes d) device (write_result w.answer) device' maps' owners' (needed s d)
        w.session
        → Leaves WriteResult (write_model (length device) (held maps owners at s) i a text perm tape) device (write_result w.answer) device' maps'
        owners' at' w.session
    write_ensures w device' maps' owners' l =
        rw (draw.1 ∙ ap (past tape at) need)
        (leaves (length device) maps owners text perm tape s i a at device (write_result w.answer) device' maps' owners' w.session d
        (decided text tape refl refl) (rw bytes_are at l))
