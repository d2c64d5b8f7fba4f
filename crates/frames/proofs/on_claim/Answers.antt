-- `frames::on_claim` meets its contract. Assumes nothing.
use Prim.Native.Nat.{◌+◌}
use mathlib.Core.Path.{ap, ap₂}
use mathlib.Core.Bool.{Bool, ◌&&◌}
use Rattle.refusals.specs.declared.Refusal.TheVariants.{MalformedLine, NotOpen}
use Rattle.claims.specs.Answers.{state_of}
use Rattle.claims.proofs.Claims.{refused_answers}
use Rattle.frames.proofs.Frames.{on_claim_length, on_claim_late, on_claim_early, on_claim_write}
use Rattle.frames.proofs.on_claim.Goals as goal

pub returns-then-fields-ne5 : goal.returns-then-fields-ne5
returns-then-fields-ne5 c = refused_answers c.args.walk.now MalformedLine (on_claim_length _ c.args.fields.now c.if-fields-ne5.true)

pub returns-then-walk-ge-MOST_CLAIMS : goal.returns-then-walk-ge-MOST_CLAIMS
returns-then-walk-ge-MOST_CLAIMS c =
    refused_answers c.args.walk.now MalformedLine (on_claim_late _ c.args.fields.now c.if-fields-ne5.false c.if-walk-ge-MOST_CLAIMS.true)

pub returns-then-not-walk : goal.returns-then-not-walk
returns-then-not-walk c =
    let w = c.args.walk.now in
    refused_answers (record w { counted = w.counted + 1 }) NotOpen
    (on_claim_early _ c.args.fields.now c.if-fields-ne5.false c.if-walk-ge-MOST_CLAIMS.false
    (ap (λ (b : Bool). b && w.shuffled) c.if-not-walk.true))

pub returns-then-not-walk-2 : goal.returns-then-not-walk-2
returns-then-not-walk-2 c =
    let w = c.args.walk.now in
    refused_answers (record w { counted = w.counted + 1 }) NotOpen
    (on_claim_early _ c.args.fields.now c.if-fields-ne5.false c.if-walk-ge-MOST_CLAIMS.false
    (ap₂ (λ (a b : Bool). a && b) c.if-not-walk.false c.if-not-walk-2.true))

pub check_and_claim-requires : goal.check_and_claim-requires
check_and_claim-requires c = c.if-not-walk-2.false

pub returns : goal.returns
returns c =
    rw (
      on_claim_write (state_of c.args.walk.now) c.args.fields.now c.if-fields-ne5.false c.if-walk-ge-MOST_CLAIMS.false
          (ap₂ (λ (a b : Bool). a && b) c.if-not-walk.false c.if-not-walk-2.false),
      ← c.number_at.ensures,
      ← c.from.ensures,
    )
    c.check_and_claim.ensures
