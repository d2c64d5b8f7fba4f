-- `turn::stage` meets its contract: after i turns the first i swaps are done. Assumes nothing.
use Rattle.std.proofs.Common.{◌≡◌}
use Rattle.swaps.specs.Transpose.{swaps}
use Rattle.turn.specs.Turn.{stage}
use Rattle.turn.proofs.stage.Given as goal

abbrev pub invariant-loop-i : goal.invariant-loop-i
invariant-loop-i l = l.w ≡ swaps (stage l.h l.m l.i) l.initial.w
