-- `ctr::apply_keystream` meets its contract. In both loops the first bytes of out, as far as they go, are the sum's. Assumes nothing.
use mathlib.Core.Path.{◌≡◌}
use Prim.Native.Nat.{◌-◌, ◌≤◌}
use lib.ListN.{length, take}
use Rattle.block.specs.Number.{block_number}
use Rattle.ctr_spec.specs.CounterMode.{stream, xors}
use Rattle.ctr.proofs.apply_keystream.Given as goal

abbrev pub invariant-loop-j : goal.invariant-loop-j
invariant-loop-j l = take l.j l.out ≡ take l.j (xors l.text (stream l.keys.schedule (block_number l.iv) l.n (length l.text)))

abbrev pub invariant-loop-i : goal.invariant-loop-i
invariant-loop-i l =
    (l.i ≤ length l.text) × (take l.i l.out ≡ take l.i (xors l.text (stream l.keys.schedule (block_number l.iv) l.n (length l.text))))

abbrev pub decreases-loop-i : goal.decreases-loop-i
decreases-loop-i l = length l.text - l.i
