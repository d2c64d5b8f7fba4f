-- Laws for the proof of `format`: what its refusals, its draw and its carrying out come to is the model's formatting. Assumes nothing.
--     need_asks          what the count of its bytes needs
--     carry_out_asks     what carrying out needs
--     format_served      what a formatting leaves is what the model's leaves
--     format_refused     and what a refused one does
use Prim.Native.Nat.{ℕ, ◌≤◌}
use mathlib.Core.Path.{◌≡◌, refl, sym, ap, ◌∙◌}
use mathlib.Core.List.{List}
use lib.ListN.{length}
use Rattle.refusals.specs.declared.Refusal.{Refusal}
use Rattle.refusals.specs.Numbers.{refusal_number}
use Rattle.refusals.proofs.Positive.{refusal_positive}
use Rattle.model.specs.declared.Geometry.{Geometry}
use Rattle.model.specs.Parts.{part}
use Rattle.model.specs.Geometry.{Allowed, device_length}
use Rattle.model.specs.Conditions.{Counted}
use Rattle.model.specs.Format.{format_need, format_refusal, lower_refusal, formatted, format_model}
use Rattle.model.specs.Answers.{LentLeaves}
use Rattle.model.proofs.Requests.{Formattable, format_refusal_none}
use Rattle.model.proofs.Order.{unless_refused_lem}
use Rattle.tape.specs.Draw.{drawn, past}
use Rattle.tape.proofs.Draws.{drawn_enough, drawn_length, past_enough}
use Rattle.making.specs.Drawn.{Makes}

module _ (device : List ℕ) (g : Geometry) (n : ℕ) (keys counts tape : List ℕ) (at : ℕ) where
  -- The refusal of the call.
  abbrev refusal : ℕ
  refusal = format_refusal (length device) g n (length keys) counts (length tape) at (lower_refusal g n keys (part at (format_need g n) tape))

  pub format_refused : (r : Refusal) → refusal_number r ≡ refusal
      → LentLeaves (format_model (length device) g n keys counts tape at) device at (refusal_number r) device at
  unfolding format_model
  format_refused r e =
      rw (← e, unless_refused_lem _ _ _ (refusal_positive r)) (record { answered = refl; stored = refl; moved = refl })

  module _ (served : 0 ≡ refusal) where
    ready : Formattable (length device) g n (length keys) counts (length tape) at
    ready = format_refusal_none (length device) g n (length keys) counts (length tape) at _ (sym served)

    pub need_asks : Allowed g × (n ≤ 15)
    need_asks = (ready.allowed, ready.count.1)

    module _ (need : ℕ) (needs : need ≡ format_need g n) (bytes : List ℕ) (at' : ℕ)
        (draw : (bytes ≡ drawn tape at need) × (at' ≡ past tape at need)) where
      bytes_are : bytes ≡ drawn tape at (format_need g n)
      bytes_are = draw.0 ∙ ap (drawn tape at) needs

      pub carry_out_asks : Makes g n (length keys) (length bytes) × Counted g.p n counts × (length device ≡ device_length g)
      carry_out_asks =
          let long = ap length bytes_are ∙ drawn_length tape at (format_need g n) ready.enough in
          (record { allowed = ready.allowed; most = ready.count.1; keyed = ready.keyed; long = long }, ready.counted, ready.long)

      pub format_served : (device' : List ℕ) → device' ≡ formatted g n keys counts bytes
          → LentLeaves (format_model (length device) g n keys counts tape at) device at 0 device' at'
      unfolding format_model
      format_served device' e =
          rw (← served)
          (record {
            answered = refl;
            stored = e ∙ ap (formatted g n keys counts) (bytes_are ∙ drawn_enough tape at (format_need g n) ready.enough);
            moved = draw.1 ∙ ap (past tape at) needs ∙ past_enough tape at (format_need g n) ready.enough;
          })
