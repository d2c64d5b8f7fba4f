-- `expansion::expand` meets its contract: before turn i of each loop the first i numbers are the schedule's words. Assumes nothing.
use Rattle.std.proofs.Common.{rules, arith}
use Rattle.expansion.proofs.Schedule.{key_more, next_more}
use Rattle.expansion.proofs.expand.Goals as goal

pub loop-i-init : goal.loop-i-init
loop-i-init c = (search rules, λ i l. absurd (omega arith))

pub loop-i-preserved : goal.loop-i-preserved
loop-i-preserved c =
    let l = c.loop-i in
    (search rules, key_more _ l.w l.i c.requires l.invariant.0 (omega arith) l.invariant.1 c.load_word.ensures)

pub loop-i-2-preserved : goal.loop-i-2-preserved
loop-i-2-preserved c =
    let l = c.loop-i-2 in
    (search rules, next_more _ l.w l.i c.requires l.invariant.0 (search rules) (omega arith) l.invariant.1 c.changed_word-a.ensures)

pub returns : goal.returns
returns c =
    let l = c.loop-i-2 in
    record { word = λ i h. l.invariant.1 i (omega arith) }
