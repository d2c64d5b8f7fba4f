-- `c_ciphers::keystream_at` meets its contract. Assumes nothing.
use mathlib.Core.Path.{◌≡◌, refl, ◌∙◌}
use native.Mathlib.Omega.{arith}
use borrow.Author.Rules.{rules}
use Rattle.refusals.specs.Numbers.{refusal_number, answer_number, unless_refused}
use Rattle.refusals.proofs.Positive.{refusal_positive}
use Rattle.ctr.proofs.Refusals.{ctr_refusal_none, err_kept}
use Rattle.c_ciphers.proofs.Refused.{from_refused, from_far, from_served}
use Rattle.c_ciphers.proofs.keystream_at.Goals as goal

pub returns-in_err-check_lengths : goal.returns-in_err-check_lengths
returns-in_err-check_lengths c =
    let same : answer_number c.from_residual.result ≡ refusal_number c.in_err-check_lengths.field-0.0 = search rules in
    record {
      answer = same ∙ from_refused _ _ _ _ _ c.in_err-check_lengths.ensures (refusal_positive _);
      output = err_kept _ _ _ c.from_residual.ensures.0;
    }

pub returns-then-position-gt1099511627776 : goal.returns-then-position-gt1099511627776
unfolding unless_refused
returns-then-position-gt1099511627776 c =
    record { answer = from_far _ _ _ _ _ c.in_ok-check_lengths.ensures c.if-position-gt1099511627776.true; output = refl }

pub ctr_from_into-requires : goal.ctr_from_into-requires
ctr_from_into-requires c =
    let q = ctr_refusal_none _ _ _ _ c.in_ok-check_lengths.ensures in
    record { key_len = q.key; iv_len = q.iv; out_len = q.out; text_bound = omega (arith, q.text) }

pub returns : goal.returns
unfolding unless_refused
returns c =
    record {
      answer = from_served _ _ _ _ _ c.in_ok-check_lengths.ensures c.if-position-gt1099511627776.false;
      output = c.ctr_from_into.ensures;
    }
