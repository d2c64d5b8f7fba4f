-- `reading::read_refusal` meets its contract. Assumes nothing.
use mathlib.Core.Path.{◌≡◌, sym, ◌∙◌}
use borrow.Author.Rules.{rules}
use Rattle.refusals.specs.Numbers.{refusal_number, answer_number}
use Rattle.refusals.proofs.Positive.{refusal_positive}
use Rattle.model.specs.Read.{read_refusal}
use Rattle.model.proofs.Requests.{standing_none, standing_stands}
use Rattle.model.proofs.Order.{standing-first}
use Rattle.reading.proofs.read_refusal.Goals as goal

pub returns-in_err-check_standing : goal.returns-in_err-check_standing
unfolding read_refusal
returns-in_err-check_standing c =
    let told = c.in_err-check_standing.ensures in
    let same : answer_number c.from_residual.result ≡ refusal_number c.in_err-check_standing.field-0.0 = search rules in
    same ∙ told ∙ sym (standing-first _ _ _ _ (rw told at (refusal_positive c.in_err-check_standing.field-0.0)) _)

pub check_asked-requires : goal.check_asked-requires
check_asked-requires c =
    let s = (standing_none _ _ _ _ 0 (sym c.in_ok-check_standing.ensures)).0 in (s.usable, s.tables.0)

pub returns : goal.returns
unfolding read_refusal
returns c =
    c.check_asked.ensures ∙ sym (standing_stands _ _ _ _ _ (standing_none _ _ _ _ 0 (sym c.in_ok-check_standing.ensures)).0)
