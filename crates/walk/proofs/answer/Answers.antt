-- `walk::answer` meets its contract: the line is decoded, and its frame answered. Assumes nothing.
use mathlib.Core.Path.{ap}
use Rattle.refusals.specs.declared.Refusal.TheVariants.{MalformedLine}
use Rattle.claims.specs.Answers.{state_of}
use Rattle.claims.proofs.Claims.{refused_answers}
use Rattle.frames.specs.Frames.{on_frame}
use Rattle.walk.specs.Lines.{step}
use Rattle.walk.proofs.Kept.{step_long}
use Rattle.walk.proofs.answer.Goals as goal

pub returns-then-line-gt-LINE_DIGITS : goal.returns-then-line-gt-LINE_DIGITS
returns-then-line-gt-LINE_DIGITS c =
    let w = c.args.walk.now in
    refused_answers w MalformedLine (step_long (state_of w) c.args.line.now c.if-line-gt-LINE_DIGITS.true)

pub returns-in-None : goal.returns-in-None
unfolding step on_frame
returns-in-None c =
    let w = c.args.walk.now in
    refused_answers w MalformedLine (ap (on_frame (state_of w)) c.in-None.ensures.line_value)

pub returns-in-Some : goal.returns-in-Some
unfolding step
returns-in-Some c = rw c.in-Some.ensures.line_value c.on_frame.ensures
