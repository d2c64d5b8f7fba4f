-- `shuffling::make` meets its contract. Assumes nothing.
use Rattle.std.proofs.Common.{◌≡◌, sym, ap, ◌∙◌, arith, rules, Err}
use Rattle.refusals.proofs.Positive.{refusal_positive}
use Rattle.model.specs.Session.{Refused}
use Rattle.ordering.proofs.Exits.{makes_refused, makes_same}
use Rattle.shuffling.proofs.Refusals.{passed, few, lent, shuffle_model_refused, shuffle_model_served}
use Rattle.shuffling.proofs.make.Goals as goal

pub returns-in_err-shuffle_refusal : goal.returns-in_err-shuffle_refusal
returns-in_err-shuffle_refusal c =
    let told = c.in_err-shuffle_refusal.ensures in
    let refusal = c.in_err-shuffle_refusal.field-0.0 in
    let same : c.from_residual.result ≡ Err refusal = search rules in
    rw same (makes_refused (shuffle_model_refused _ _ _ _ (rw told at (refusal_positive refusal)) ∙ ap Refused (sym told)))

pub slice_bounds-list-end : goal.slice_bounds-list-end
slice_bounds-list-end c = few _ _ _ _ (sym c.in_ok-shuffle_refusal.ensures)

pub slice_bounds-make_beside-end : goal.slice_bounds-make_beside-end
slice_bounds-make_beside-end c = sym (lent _ _ _ _ (sym c.in_ok-shuffle_refusal.ensures))

pub make_beside-requires : goal.make_beside-requires
make_beside-requires c =
    let e = sym c.in_ok-shuffle_refusal.ensures in
    let p = passed _ _ _ _ e in
    (lent _ _ _ _ e, omega (arith, p.long, p.allowed.slices_least), few _ _ _ _ e, p.inside)

pub returns : goal.returns
returns c = makes_same (sym (shuffle_model_served _ _ _ _ (sym c.in_ok-shuffle_refusal.ensures))) c.make_beside.ensures
