-- `requests::check_standing` meets its contract: a refused geometry is the first refusal. Assumes nothing.
use mathlib.Core.Path.{◌≡◌, ◌∙◌}
use borrow.Author.Rules.{rules}
use Rattle.refusals.specs.Numbers.{refuse, refusal_number, answer_number}
use Rattle.refusals.proofs.Positive.{refusal_positive}
use Rattle.model.specs.Session.{standing}
use Rattle.model.proofs.Order.{bad_geometry-first}
use Rattle.requests.proofs.check_standing.Goals as goal

pub returns-in_err-check_geometry : goal.returns-in_err-check_geometry
unfolding standing refuse
returns-in_err-check_geometry c =
    let told = c.in_err-check_geometry.ensures in
    let same : answer_number c.from_residual.result ≡ refusal_number c.in_err-check_geometry.field-0.0 = search rules in
    let refused = rw told at (refusal_positive c.in_err-check_geometry.field-0.0) in
    same ∙ simp (c.if-not-session.false, bad_geometry-first 20 c.args.session.geometry refused) told
