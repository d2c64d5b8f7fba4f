-- `lines::print_bytes` meets its contract. The output begins with the digits of the i bytes passed. Assumes nothing.
use mathlib.Core.Path.{◌≡◌}
use lib.ListN.{take}
use Rattle.model.specs.Parts.{overlay}
use Rattle.lines.specs.Hexadecimal.{digits}
use Rattle.lines.proofs.print_bytes.Given as goal

abbrev pub invariant-loop-i : goal.invariant-loop-i
invariant-loop-i l = l.out ≡ overlay l.initial.out 0 (digits (take l.i l.bytes))
