-- `batch::encrypt` meets its contract: before round r the rounds 1 to r − 1 are done. Assumes nothing.
use Rattle.std.proofs.Common.{rules, arith}
use Rattle.planes.specs.Rounds.{added_lane, mixed_lane, moved_lane}
use Rattle.batch.proofs.Turns.{rounds_none, rounds_more, encrypted}
use Rattle.batch.proofs.encrypt.Goals as goal

pub loop-round-init : goal.loop-round-init
loop-round-init c = rounds_none _ _ _

pub loop-round-preserved : goal.loop-round-preserved
loop-round-preserved c =
    let l = c.loop-round in
    rounds_more _ _ l.round _ l.s _ _ _ (omega arith) l.invariant c.sub_rows.ensures c.round_key-b.ensures
    (c.each_lane-in-loop-round.ensures (mixed_lane c.round_key-b.result) (λ x y p. search rules))

pub returns : goal.returns
returns c =
    encrypted _ _ c.loop-round.round _ _ _ _ _ _ _ _ _ (omega arith) c.transpose.ensures c.round_key-a.ensures
    (c.each_lane.ensures (added_lane c.round_key-a.result) (λ x y p. search rules))
    c.loop-round.invariant
    c.sub_rows-2.ensures
    c.round_key-c.ensures
    (c.each_lane-2.ensures (moved_lane c.round_key-c.result) (λ x y p. search rules))
    c.transpose-2.ensures
