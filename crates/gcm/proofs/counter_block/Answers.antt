-- `gcm::counter_block` meets its contract. Assumes nothing.
use Rattle.block.specs.Number.{block_number}
use Rattle.gcm_spec.proofs.Gctr.{counter_iv}
use Rattle.gcm.proofs.counter_block.Goals as goal

pub returns : goal.returns
returns c =
    counter_iv c.args.iv.now c.args.k (block_number c.load_block-b.result) _ c.requires.iv_len
    (λ i h. (c.type_inv.iv i).fits)
    c.requires.k_bound
    c.load_block-b.ensures
    c.add.ensures
