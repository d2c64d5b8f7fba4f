-- `ctr::planes_from_into` meets its contract: the first bytes of out, as far as the chunks go, are the sum's. Assumes nothing.
use Prim.Native.Nat.{◌-◌, ◌≤◌}
use lib.ListN.{length}
use Rattle.aes.specs.KeyExpansion.{key_expansion}
use Rattle.block.specs.Number.{block_number}
use Rattle.ctr_spec.specs.CounterMode.{stream, xors}
use Rattle.ctr.proofs.Chunks.{Agree}
use Rattle.ctr.proofs.planes_from_into.Given as goal

abbrev pub invariant-loop-at : goal.invariant-loop-at
invariant-loop-at l =
    (l.at ≤ length l.text) × Agree l.out (xors l.text (stream (key_expansion l.key) (block_number l.c) l.n (length l.text))) l.at

abbrev pub decreases-loop-at : goal.decreases-loop-at
decreases-loop-at l = length l.text - l.at
