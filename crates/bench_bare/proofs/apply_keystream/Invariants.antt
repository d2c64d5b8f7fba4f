-- `bench_bare::apply_keystream` meets its contract. In both loops the first i bytes of out are the sum's. Assumes nothing.
use mathlib.Core.Path.{◌≡◌}
use Prim.Native.Nat.{◌-◌, ◌≤◌}
use lib.ListN.{length, take}
use Rattle.block.specs.Number.{block_number}
use Rattle.ctr_spec.specs.CounterMode.{stream, xors}
use Rattle.bench_bare.proofs.apply_keystream.Given as goal

abbrev pub invariant-loop-i-2 : goal.invariant-loop-i-2
invariant-loop-i-2 l =
    (l.initial.i ≤ l.i) × (l.i ≤ l.end) × (length l.out ≡ length l.text) × (take l.i l.out ≡ take l.i (xors l.text (stream l.w (block_number l.iv) l.n (length l.text))))

abbrev pub invariant-loop-i : goal.invariant-loop-i
invariant-loop-i l =
    (l.i ≤ length l.text) × (length l.out ≡ length l.text) × (take l.i l.out ≡ take l.i (xors l.text (stream l.w (block_number l.iv) l.n (length l.text))))

abbrev pub decreases-loop-i-2 : goal.decreases-loop-i-2
decreases-loop-i-2 l = l.end - l.i

abbrev pub decreases-loop-i : goal.decreases-loop-i
decreases-loop-i l = length l.text - l.i
