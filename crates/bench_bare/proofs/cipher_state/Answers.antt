-- `bench_bare::cipher_state` meets its contract. Before turn n the state is the definition's after n - 1 rounds. Assumes nothing.
use mathlib.Core.Path.{◌∙◌}
use native.Mathlib.Omega.{arith}
use borrow.Author.Rules.{rules}
use Rattle.aes.specs.Cipher.{rounds}
use Rattle.aes.proofs.Rounds.{rounds_more, rounds_done}
use Rattle.bench_bare.proofs.cipher_state.Goals as goal

pub loop-n-init : goal.loop-n-init
unfolding rounds
loop-n-init c = search rules

pub loop-n-preserved : goal.loop-n-preserved
loop-n-preserved c =
    let l = c.loop-n in
    c.round-y.ensures ∙ rounds_more _ _ _ _ l.n (omega arith) l.invariant c.round_key-in-loop-n.ensures

pub returns : goal.returns
returns c =
    let l = c.loop-n in
    c.last_round.ensures
    ∙ rounds_done _ _ c.round_key.result c.add_round_key-x.result _ _ l.n (omega arith) (omega arith)
    c.round_key.ensures
    c.add_round_key-x.ensures
    l.invariant
    c.round_key-2.ensures
