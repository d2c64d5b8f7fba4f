-- `batch::encrypt` meets its contract: before round r the rounds 1 to r − 1 are done. Assumes nothing.
use Rattle.std.proofs.Common.{◌≡◌, ◌-◌}
use Rattle.batch.specs.Batch.{rounds_lanes}
use Rattle.batch.proofs.encrypt.Given as goal

abbrev pub invariant-loop-round : goal.invariant-loop-round
invariant-loop-round l = l.s ≡ rounds_lanes l.k l.n l.initial.s (l.round - 1)
