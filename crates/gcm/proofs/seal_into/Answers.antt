-- `gcm::seal_into` meets its contract. Assumes nothing.
use mathlib.Core.Path.{ap, ◌∙◌}
use Rattle.gcm_spec.specs.Gcm.{gcm_tag}
use Rattle.gcm_spec.proofs.Gctr.{text_over, tag_key}
use Rattle.gcm.proofs.seal_into.Goals as goal

pub returns : goal.returns
returns c =
    let a = c.args in
    let w = c.round_keys-keys.ensures in
    let text =
    text_over a.key.now a.iv.now a.text.now w c.counter_block-c.ensures c.requires.text_len_bound
    c.apply_keystream.ensures in record {
      output = text;
      tag = c.copy_from_slice.ensures.after ∙ tag_key a.key.now a.iv.now a.aad.now _ w c.tag_of-m.ensures
          ∙ ap (gcm_tag a.key.now a.iv.now a.aad.now) text;
    }
