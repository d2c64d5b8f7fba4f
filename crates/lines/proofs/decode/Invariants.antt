-- `lines::decode` meets its contract. The frame begins with the bytes of the i pairs of digits passed. Assumes nothing.
use Prim.Native.Nat.{◌*◌}
use mathlib.Core.Path.{◌≡◌}
use lib.ListN.{take, drop}
use Rattle.lines.specs.Hexadecimal.{decode}
use Rattle.lines.proofs.Decoding.{following}
use Rattle.lines.proofs.decode.Given as goal

abbrev pub invariant-loop-i : goal.invariant-loop-i
invariant-loop-i l = decode l.line ≡ following (take l.i l.frame) (decode (drop (2 * l.i) l.line))
