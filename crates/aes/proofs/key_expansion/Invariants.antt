-- `aes::key_expansion` meets its contract. Before turn i the first 4i bytes are the schedule's. Assumes nothing.
use mathlib.Core.Path.{◌≡◌}
use Prim.Native.Nat.{◌*◌, ◌-◌}
use lib.ListN.{length, take}
use Rattle.aes.specs.KeyExpansion.{schedule}
use Rattle.aes.proofs.key_expansion.Given as goal

abbrev pub invariant-loop-i : goal.invariant-loop-i
invariant-loop-i l = (length l.w ≡ 240) × (take (4 * l.i) l.w ≡ schedule l.key (l.i - 8))
