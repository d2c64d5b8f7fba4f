-- `ctr::counter_mode` meets its contract. Assumes nothing.
use native.Mathlib.Omega.{arith}
use Rattle.refusals.specs.Numbers.{unless_refused}
use Rattle.ctr.proofs.Refusals.{ctr_refusal_none, err_kept}
use Rattle.ctr.proofs.counter_mode.Goals as goal

pub returns-in_err-check_lengths-clause-output : goal.returns-in_err-check_lengths-clause-output
returns-in_err-check_lengths-clause-output c = err_kept _ _ _ c.from_residual.ensures.0

pub ctr_into-requires : goal.ctr_into-requires
ctr_into-requires c =
    let q = ctr_refusal_none _ _ _ _ c.in_ok-check_lengths.ensures in
    record { key_len = q.key; iv_len = q.iv; out_len = q.out; text_len_bound = omega (arith, q.text) }

pub returns-clause-output : goal.returns-clause-output
unfolding unless_refused
returns-clause-output c = c.ctr_into.ensures
