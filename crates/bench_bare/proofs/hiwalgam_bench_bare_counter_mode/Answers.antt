-- `bench_bare::hiwalgam_bench_bare_counter_mode` meets its contract. Assumes nothing.
use mathlib.Core.Path.{sym, ◌∙◌}
use Rattle.refusals.specs.Numbers.{unless_refused}
use Rattle.refusals.proofs.Positive.{refusal_positive}
use Rattle.refusals.proofs.Refuse.{unless_refused_refused}
use Rattle.ctr_spec.specs.CounterMode.{ctr, ctr_over}
use Rattle.ctr_spec.proofs.Counter.{over_loaded}
use Rattle.ctr.proofs.Refusals.{ctr_refusal_none}
use Rattle.bench_bare.proofs.hiwalgam_bench_bare_counter_mode.Goals as goal

pub returns-in-Err-clause-output : goal.returns-in-Err-clause-output
returns-in-Err-clause-output c = rw c.from.ensures (sym (unless_refused_refused _ _ _ (refusal_positive c.in-Err.refused)))

pub round_keys-keys-requires-clause-key_len : goal.round_keys-keys-requires-clause-key_len
round_keys-keys-requires-clause-key_len c = (ctr_refusal_none _ _ _ _ c.in_default.ensures).key

pub apply_keystream-requires-clause-out_len : goal.apply_keystream-requires-clause-out_len
apply_keystream-requires-clause-out_len c = (ctr_refusal_none _ _ _ _ c.in_default.ensures).out

pub returns-clause-output : goal.returns-clause-output
unfolding unless_refused ctr ctr_over
returns-clause-output c =
    let a = c.args in
    c.apply_keystream.ensures
    ∙ over_loaded c.round_keys-keys.result a.key.now a.iv.now 0 a.text.now c.round_keys-keys.ensures c.load_block-c.ensures
    (ctr_refusal_none _ _ _ _ c.in_default.ensures).iv
