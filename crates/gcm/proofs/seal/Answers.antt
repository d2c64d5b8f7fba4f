-- `gcm::seal` meets its contract. Assumes nothing.
use native.Mathlib.Omega.{arith}
use Rattle.refusals.specs.Numbers.{unless_refused}
use Rattle.ctr.proofs.Refusals.{err_kept}
use Rattle.gcm.proofs.Refusals.{gcm_refusal_none}
use Rattle.gcm.proofs.seal.Goals as goal

pub returns-in_err-lengths_refusal-clause-output : goal.returns-in_err-lengths_refusal-clause-output
returns-in_err-lengths_refusal-clause-output c = err_kept _ _ _ c.from_residual.ensures.0

pub returns-in_err-lengths_refusal-clause-tag : goal.returns-in_err-lengths_refusal-clause-tag
returns-in_err-lengths_refusal-clause-tag c = err_kept _ _ _ c.from_residual.ensures.0

pub seal_into-requires : goal.seal_into-requires
seal_into-requires c =
    let q = gcm_refusal_none _ _ _ _ _ _ c.in_ok-lengths_refusal.ensures in
    record { key_len = q.key; iv_len = q.iv; aad_len_bound = omega (arith, q.aad); text_len_bound = omega (arith, q.text); out_len = q.out; tag_len = q.tag }

pub returns : goal.returns
unfolding unless_refused
returns c =
    record {
      answer = c.in_ok-lengths_refusal.ensures;
      output = c.seal_into.ensures.output;
      tag = c.seal_into.ensures.tag;
    }
