-- `frames::read_pairs` meets its contract. The numbers begin with those of the i pairs of bytes passed. Assumes nothing.
use Prim.Native.Nat.{◌*◌}
use mathlib.Core.Path.{◌≡◌}
use mathlib.Core.List.{◌++◌}
use lib.ListN.{take, drop}
use Rattle.frames.specs.Frames.{pairs}
use Rattle.frames.proofs.read_pairs.Given as goal

abbrev pub invariant-loop-i : goal.invariant-loop-i
invariant-loop-i l = pairs l.bytes ≡ take l.i l.numbers ++ pairs (drop (2 * l.i) l.bytes)
