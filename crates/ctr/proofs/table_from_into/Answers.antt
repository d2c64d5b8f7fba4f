-- `ctr::table_from_into` meets its contract. Assumes nothing.
use mathlib.Core.Path.{◌∙◌}
use Rattle.ctr_spec.proofs.Counter.{over_loaded}
use Rattle.ctr.proofs.table_from_into.Goals as goal

pub returns : goal.returns
returns c =
    let a = c.args in
    c.apply_keystream.ensures
    ∙ over_loaded _ a.key.now a.iv.now a.n a.text.now c.round_keys-keys.ensures c.load_block-c.ensures
    c.requires.iv_len
