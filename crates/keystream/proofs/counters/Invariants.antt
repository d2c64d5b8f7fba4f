-- `keystream::counters` meets its contract: in both loops the counter blocks below the place that is next are there. Assumes nothing.
use Rattle.std.proofs.Common.{◌+◌, ◌*◌}
use Rattle.block.specs.Number.{block_number}
use Rattle.keystream.specs.Words.{Counters}
use Rattle.keystream.proofs.counters.Given as goal

abbrev pub invariant-loop-j : goal.invariant-loop-j
invariant-loop-j l = Counters (block_number l.iv + l.from) l.n (16 * l.i + l.j) l.s

abbrev pub invariant-loop-i : goal.invariant-loop-i
invariant-loop-i l = Counters (block_number l.iv + l.from) l.n (16 * l.i) l.s
