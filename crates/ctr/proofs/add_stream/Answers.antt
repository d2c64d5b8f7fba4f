-- `ctr::add_stream` meets its contract: after i turns i bytes are summed. Assumes nothing.
use mathlib.Core.Path.{◌≡◌}
use native.Mathlib.Omega.{arith}
use Rattle.ctr.proofs.Chunks.{add_none, add_turn}
use Rattle.ctr.proofs.add_stream.Goals as goal

pub loop-i-init : goal.loop-i-init
loop-i-init c = add_none _ _ _ _ _

pub loop-i-preserved : goal.loop-i-preserved
loop-i-preserved c = add_turn _ _ _ c.loop-i.i _ _ c.loop-i.out c.loop-i.invariant

pub returns : goal.returns
returns c =
    let l = c.loop-i in
    let e : l.i ≡ c.args.k = omega arith in
    rw e at l.invariant
