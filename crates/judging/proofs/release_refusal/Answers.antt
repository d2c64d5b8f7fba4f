-- `judging::release_refusal` meets its contract: what the session and the permutation are refused for comes first. Assumes nothing.
use mathlib.Core.Path.{◌≡◌, sym, ◌∙◌}
use lib.ListN.{length}
use borrow.Author.Rules.{rules}
use Rattle.refusals.specs.Numbers.{refusal_number, answer_number}
use Rattle.refusals.proofs.Positive.{refusal_positive}
use Rattle.refusals.proofs.Refuse.{refuse-first, rest_first}
use Rattle.model.specs.Release.{release_refusal}
use Rattle.model.proofs.Order.{standing-first}
use Rattle.model.proofs.Requests.{Stands, standing_none, standing_stands}
use Rattle.judging.proofs.release_refusal.Goals as goal

pub returns-in_err-check_standing : goal.returns-in_err-check_standing
unfolding release_refusal
returns-in_err-check_standing c =
    let told = c.in_err-check_standing.ensures in
    let same : answer_number c.from_residual.result ≡ refusal_number c.in_err-check_standing.field-0.0 = search rules in
    same ∙ told ∙ sym (standing-first _ _ _ _ (rw told at (refusal_positive c.in_err-check_standing.field-0.0)) _)

pub returns-in_err-check_permutation : goal.returns-in_err-check_permutation
unfolding release_refusal
returns-in_err-check_permutation c =
    let a = c.args in
    let stands : Stands a.device (length a.maps.now) (length a.owners.now) a.session = (standing_none _ _ _ _ 0 (sym c.in_ok-check_standing.ensures)).0 in
    let told = c.in_err-check_permutation.ensures in
    let same : answer_number c.from_residual-in_err-check_permutation.result ≡ refusal_number c.in_err-check_permutation.field-0.0 = search rules in
    let first = refuse-first _ 5 _ (refuse-first _ 5 (λ rest. rest) rest_first) (rw told at (refusal_positive c.in_err-check_permutation.field-0.0)) _ in
    same ∙ told ∙ sym (standing_stands _ _ _ _ _ stands ∙ first)
