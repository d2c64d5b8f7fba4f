-- `ctr::add_stream` meets its contract: after i turns i bytes are summed. Assumes nothing.
use mathlib.Core.Path.{◌≡◌}
use Rattle.ctr.specs.Chunks.{add_stream}
use Rattle.ctr.proofs.add_stream.Given as goal

abbrev pub invariant-loop-i : goal.invariant-loop-i
invariant-loop-i l = l.out ≡ add_stream l.buf l.off l.at l.i l.text l.initial.out
