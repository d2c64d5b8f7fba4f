-- `ctr::output_block` meets its contract. Assumes nothing.
use mathlib.Core.Path.{◌∙◌}
use Prim.Native.Nat.{◌+◌}
use Rattle.block.specs.Number.{block_number}
use Rattle.ctr_spec.proofs.Counter.{output_low}
use Rattle.ctr.proofs.output_block.Goals as goal

pub returns : goal.returns
returns c =
    let a = c.args in
    c.encrypt_block.ensures
    ∙ output_low a.keys.schedule (block_number a.iv + a.n) c.block_bytes-counter.ensures c.add.ensures
