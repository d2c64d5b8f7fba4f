-- `gcm::hash` meets its contract. Assumes nothing.
use Rattle.block.specs.Number.{block_number}
use Rattle.gcm.proofs.Parts.{ghash_parts}
use Rattle.gcm.proofs.hash.Goals as goal

pub returns : goal.returns
returns c =
    let a = c.args in
    ghash_parts (block_number a.h) a.aad.now a.c.now c.requires.aad_len_bound c.requires.c_len_bound c.absorb-a.ensures c.absorb-y.ensures
    c.absorb_block.ensures
