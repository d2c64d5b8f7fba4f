-- `keystream::bytes` meets its contract: in both loops the bytes before the block that is next are there. Assumes nothing.
use Rattle.std.proofs.Common.{◌+◌, ◌*◌}
use Rattle.keystream.specs.Words.{BlocksOut}
use Rattle.keystream.proofs.bytes.Given as goal

abbrev pub invariant-loop-i : goal.invariant-loop-i
invariant-loop-i l = BlocksOut l.s (256 * l.j + 16 * l.i) l.buf

abbrev pub invariant-loop-j : goal.invariant-loop-j
invariant-loop-j l = BlocksOut l.s (256 * l.j) l.buf
