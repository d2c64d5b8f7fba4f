-- `lanes::each_lane` meets its contract: after j turns the first j lanes are changed. Assumes nothing.
use Rattle.lanes.proofs.Turns.{lanes_none, lanes_more}
use Rattle.lanes.proofs.each_lane.Goals as goal

pub loop-j-init : goal.loop-j-init
loop-j-init k c = λ g h. lanes_none g _

pub loop-j-preserved : goal.loop-j-preserved
loop-j-preserved k c =
    let l = c.loop-j in
    λ g h. lanes_more g l.j _ l.s _ _ _ (l.invariant g h) c.get_lane.ensures (h _ _ c.f-y.ensures) c.put_lane.ensures
