-- `gcm::hash_subkey` meets its contract. Assumes nothing.
use borrow.Author.Rules.{rules}
use Rattle.gcm_spec.proofs.Gctr.{subkey_block}
use Rattle.gcm.proofs.hash_subkey.Goals as goal

pub returns : goal.returns
returns c =
    subkey_block c.args.keys.schedule c.output_block-b.ensures (search rules) c.load_block.ensures
