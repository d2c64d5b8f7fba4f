-- `gcm::open` meets its contract. Assumes nothing.
use native.Mathlib.Omega.{arith}
use Rattle.std.proofs.lemmas.Result.{err_from_is_err_and}
use Rattle.refusals.specs.Numbers.{unless_refused}
use Rattle.refusals.proofs.Positive.{refusal_positive}
use Rattle.ctr.proofs.Refusals.{err_kept}
use Rattle.gcm.proofs.Refusals.{gcm_refusal_none, gcm_refusal_rest, gcm_refusal_first}
use Rattle.gcm_spec.proofs.Same.{open_test}
use Rattle.gcm.proofs.open.Goals as goal

pub returns-in_err-lengths_refusal-clause-answer : goal.returns-in_err-lengths_refusal-clause-answer
returns-in_err-lengths_refusal-clause-answer c =
    let p = err_from_is_err_and c.from_residual.result c.from_residual.ensures.1 in
    rw (p.1, p.2) (gcm_refusal_first _ _ _ _ _ _ c.in_err-lengths_refusal.ensures (refusal_positive _) _)

pub returns-in_err-lengths_refusal-clause-output : goal.returns-in_err-lengths_refusal-clause-output
returns-in_err-lengths_refusal-clause-output c = err_kept _ _ _ c.from_residual.ensures.0

pub open_into-requires : goal.open_into-requires
open_into-requires c =
    let q = gcm_refusal_none _ _ _ _ _ _ c.in_ok-lengths_refusal.ensures in
    record { key_len = q.key; iv_len = q.iv; aad_len_bound = omega (arith, q.aad); text_len_bound = omega (arith, q.text); tag_len = q.tag; out_len = q.out }

pub returns-then-open_into : goal.returns-then-open_into
unfolding unless_refused
returns-then-open_into c =
    let a = c.args in
    let o = c.open_into.ensures in
    let e = open_test a.key.now a.iv.now a.aad.now a.text.now a.tag.now o.right c.if-open_into.true in
    record { answer = rw e (gcm_refusal_rest _ _ _ _ _ _ c.in_ok-lengths_refusal.ensures 0); output = rw e at o.output }

pub returns : goal.returns
unfolding unless_refused
returns c =
    let a = c.args in
    let o = c.open_into.ensures in
    let e = open_test a.key.now a.iv.now a.aad.now a.text.now a.tag.now o.right c.if-open_into.false in
    record { answer = rw e (gcm_refusal_rest _ _ _ _ _ _ c.in_ok-lengths_refusal.ensures 15); output = rw e at o.output }
