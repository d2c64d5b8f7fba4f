-- `frames::on_order` meets its contract: each outcome by its law (`Frames.antt`). Assumes nothing.
use mathlib.Core.Path.{refl, sym, ap, ◌∙◌}
use native.Mathlib.Omega.{arith}
use Rattle.refusals.specs.declared.Refusal.TheVariants.{BadPermutation, MalformedLine, NotOpen}
use Rattle.claims.specs.State.{State}
use Rattle.claims.specs.Claims.{refused_by}
use Rattle.claims.proofs.Claims.{refused_answers}
use Rattle.frames.proofs.Frames.{accepted-answers, state_of_unshuffled, on_order_again, on_order_early, on_order_wrong_length, on_order_missing, on_order_accepted}
use Rattle.frames.proofs.on_order.Goals as goal

pub returns-then-walk : goal.returns-then-walk
returns-then-walk c = refused_answers c.args.walk.now MalformedLine (on_order_again _ _ c.if-walk.true)

pub returns-then-not-walk : goal.returns-then-not-walk
returns-then-not-walk c = refused_answers c.args.walk.now NotOpen (on_order_early _ _ c.if-walk.false c.if-not-walk.true)

pub returns-then-p-gt-MOST_SLICES : goal.returns-then-p-gt-MOST_SLICES
returns-then-p-gt-MOST_SLICES c =
    refused_answers c.args.walk.now BadPermutation
    (on_order_wrong_length _ _ c.if-walk.false c.if-not-walk.false (λ e. omega arith))

pub returns-then-fields-p : goal.returns-then-fields-p
returns-then-fields-p c =
    refused_answers c.args.walk.now BadPermutation (on_order_wrong_length _ _ c.if-walk.false c.if-not-walk.false c.if-fields-p.true)

pub returns-then-set_order : goal.returns-then-set_order
returns-then-set_order c =
    let w = c.args.walk.now in
    let first = c.if-walk.false in
    refused_answers (record w { perm = c.set_order.new.perm }) BadPermutation
    (on_order_missing _ _ first c.if-not-walk.false c.if-fields-p.false (sym c.set_order.ensures.1 ∙ c.if-set_order.true)
    ∙ ap (λ (s : State). refused_by s 5) (state_of_unshuffled w _ first))

pub returns : goal.returns
returns c =
    let first = c.if-walk.false in
    accepted-answers (rw c.set_order.ensures.0 refl)
    (on_order_accepted _ _ first c.if-not-walk.false c.if-fields-p.false (sym c.set_order.ensures.1 ∙ c.if-set_order.false))
