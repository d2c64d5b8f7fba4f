-- `slicewalk::walk_piece` ends. Assumes nothing.
use Rattle.std.proofs.Common.{length}
use Rattle.slicewalk.proofs.walk_piece.Given as goal

abbrev pub decreases-loop-rest : goal.decreases-loop-rest
decreases-loop-rest g l = length l.rest
