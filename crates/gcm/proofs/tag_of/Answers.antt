-- `gcm::tag_of` meets its contract. Assumes nothing.
use Rattle.gcm_spec.proofs.Gctr.{tag_over}
use Rattle.gcm.proofs.tag_of.Goals as goal

pub returns : goal.returns
returns c =
    let a = c.args in
    tag_over a.keys a.iv.now a.aad.now a.c.now c.hash_subkey-h.ensures c.hash.ensures
    c.block_bytes-s.ensures
    c.counter_block-j0.ensures
    c.apply_keystream.ensures
