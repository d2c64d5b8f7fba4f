-- `frames::on_frame` meets its contract: each kind by its function. Assumes nothing.
use mathlib.Core.Path.{refl, ◌∙◌}
use native.Mathlib.Omega.{arith}
use borrow.Author.Tests.{ne_eqb}
use Rattle.refusals.specs.declared.Refusal.TheVariants.{MalformedLine}
use Rattle.claims.proofs.Claims.{refused_answers}
use Rattle.frames.specs.Frames.{on_kind}
use Rattle.frames.proofs.Frames.{on_frame_empty, on_frame_kind}
use Rattle.frames.proofs.on_frame.Goals as goal

pub returns-in_default : goal.returns-in_default
returns-in_default c = refused_answers c.args.walk.now MalformedLine (on_frame_empty _ c.args.bytes.now c.in_default.ensures.cases)

pub returns-in-1 : goal.returns-in-1
unfolding on_kind
returns-in-1 c = rw (on_frame_kind _ _ _ c.in-Some.ensures.cases.0 c.requires, c.in-1.is) c.on_size.ensures

pub returns-in-2 : goal.returns-in-2
unfolding on_kind
returns-in-2 c = rw (on_frame_kind _ _ _ c.in-Some.ensures.cases.0 c.requires, c.in-2.is) c.on_order.ensures

pub returns-in-3 : goal.returns-in-3
unfolding on_kind
returns-in-3 c = rw (on_frame_kind _ _ _ c.in-Some.ensures.cases.0 c.requires, c.in-3.is) c.on_claim.ensures

pub returns-in_default-kind : goal.returns-in_default-kind
unfolding on_kind
returns-in_default-kind c =
    let kind = c.in-Some.kind.now in
    refused_answers c.args.walk.now MalformedLine
    (on_frame_kind _ _ _ c.in-Some.ensures.cases.0 c.requires
    ∙ rw (ne_eqb kind 1 (λ e. omega (arith, e)), ne_eqb kind 2 (λ e. omega (arith, e)), ne_eqb kind 3 (λ e. omega (arith, e))) refl)
