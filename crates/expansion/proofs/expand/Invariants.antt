-- `expansion::expand` meets its contract: before turn i of each loop the first i numbers are the schedule's words. Assumes nothing.
use Rattle.std.proofs.Common.{◌≡◌, length}
use Rattle.expansion.proofs.Schedule.{Begun}
use Rattle.expansion.proofs.expand.Given as goal

abbrev pub invariant-loop-i : goal.invariant-loop-i
invariant-loop-i l = (length l.w ≡ 60) × Begun l.key l.w l.i

abbrev pub invariant-loop-i-2 : goal.invariant-loop-i-2
invariant-loop-i-2 l = (length l.w ≡ 60) × Begun l.key l.w l.i
