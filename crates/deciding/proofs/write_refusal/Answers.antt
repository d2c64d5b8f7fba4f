-- `deciding::write_refusal` meets its contract: what the session is refused for comes first. Assumes nothing.
use mathlib.Core.Path.{◌≡◌, sym, ◌∙◌}
use borrow.Author.Rules.{rules}
use Rattle.refusals.specs.Numbers.{refusal_number, answer_number}
use Rattle.refusals.proofs.Positive.{refusal_positive}
use Rattle.model.specs.Write.{write_refusal}
use Rattle.model.proofs.Order.{standing-first}
use Rattle.deciding.proofs.write_refusal.Goals as goal

pub returns-in_err-check_standing : goal.returns-in_err-check_standing
unfolding write_refusal
returns-in_err-check_standing c =
    let told = c.in_err-check_standing.ensures in
    let same : answer_number c.from_residual.result ≡ refusal_number c.in_err-check_standing.field-0.0 = search rules in
    same ∙ told ∙ sym (standing-first _ _ _ _ (rw told at (refusal_positive c.in_err-check_standing.field-0.0)) _)
