-- `keystream::counters` meets its contract: in both loops the counter blocks below the place that is next are there. Assumes nothing.
use mathlib.Core.Path.{◌≡◌}
use native.Mathlib.Nat.{add-zero}
use native.Mathlib.Omega.{arith}
use borrow.Author.Rules.{rules}
use Rattle.block.specs.Number.{block_number}
use Rattle.keystream.proofs.Turns.{counters_none, counters_turn, counters_next}
use Rattle.keystream.proofs.counters.Goals as goal

pub loop-i-init : goal.loop-i-init
loop-i-init c = counters_none _ _ _ (search rules)

pub loop-j-init : goal.loop-j-init
loop-j-init c = rw add-zero c.loop-i.invariant

pub loop-j-preserved : goal.loop-j-preserved
loop-j-preserved c =
    let r = c.loop-i in
    let l = c.loop-j in
    let a = c.args in
    let t = counters_turn (block_number a.iv) a.from a.n r.i l.j _ l.s _ (search rules) (search rules) l.invariant
    c.counter.ensures c.put_counter.ensures in
    t

pub loop-i-preserved : goal.loop-i-preserved
loop-i-preserved c =
    let r = c.loop-i in
    let l = c.loop-j in
    counters_next _ _ r.i l.j l.s (search rules) (search rules) l.invariant

pub returns : goal.returns
returns c =
    let r = c.loop-i in
    let e : r.i ≡ 16 = omega arith in
    rw e at r.invariant
