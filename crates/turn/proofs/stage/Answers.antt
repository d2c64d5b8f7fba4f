-- `turn::stage` meets its contract: after i turns the first i swaps are done. Assumes nothing.
use Rattle.std.proofs.Common.{refl}
use Rattle.swaps.specs.Swaps.{swap_a, swap_b, delta}
use Rattle.turn.proofs.Laws.{stage_turn, stage_none}
use Rattle.turn.proofs.stage.Goals as goal

pub loop-i-init : goal.loop-i-init
loop-i-init c = stage_none _ _ _

pub loop-i-preserved : goal.loop-i-preserved
unfolding swap_a swap_b delta
loop-i-preserved c =
    let l = c.loop-i in
    stage_turn _ _ l.i _ l.w _ l.invariant (rw (← c.first-a.ensures.value) refl)
