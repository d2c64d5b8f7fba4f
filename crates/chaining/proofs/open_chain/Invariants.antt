-- `chaining::open_chain` meets its contract. The loop's invariant: the chain is what the i headers that remain leave, with the
-- keys and the counts above them in their places and 0 above k. Assumes nothing.
use mathlib.Core.Path.{◌≡◌}
use mathlib.Core.List.{[]}
use Prim.Native.Nat.{◌+◌, ◌-◌, ◌*◌}
use lib.ListN.{length, replicate}
use Rattle.model.specs.Parts.{part}
use Rattle.model.specs.Geometry.{header_of}
use Rattle.model.specs.Opening.{chain}
use Rattle.chaining.proofs.Chains.{remaining}
use Rattle.chaining.proofs.open_chain.Given as goal

abbrev pub invariant-loop-i : goal.invariant-loop-i
invariant-loop-i l =
    record {
      text : length l.text ≡ 72;
      keys : part (32 * (l.k + 1)) (32 * (14 - l.k)) l.keys ≡ replicate (32 * (14 - l.k)) 0;
      counts : part (l.k + 1) (14 - l.k) l.counts ≡ replicate (14 - l.k) 0;
      chain : chain l.g (header_of l.g l.device) l.k l.initial.vmk [] []
          ≡ remaining l.g (header_of l.g l.device) l.i l.vmk (part (32 * l.i) (32 * (l.k + 1 - l.i)) l.keys) (part l.i (l.k + 1 - l.i) l.counts);
    }
