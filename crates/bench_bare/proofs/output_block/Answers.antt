-- `bench_bare::output_block` meets its contract. Assumes nothing.
use mathlib.Core.Path.{◌∙◌}
use Prim.Native.Nat.{◌+◌}
use Rattle.block.specs.Number.{block_number}
use Rattle.ctr_spec.proofs.Counter.{output_low}
use Rattle.bench_bare.proofs.output_block.Goals as goal

pub returns : goal.returns
returns c =
    let a = c.args in
    c.encrypt_block.ensures
    ∙ output_low a.w.now (block_number a.iv + a.n) c.block_bytes-counter.ensures c.add.ensures
