-- `gcm_spec::gcm_laws` meets its contract. Assumes nothing.
use Rattle.gcm_spec.proofs.Gctr.{text_twice, text_length, tag_length, counter_low}
use Rattle.gcm_spec.proofs.Same.{open_sealed, open_right, same_refl, same_equal}
use Rattle.gcm_spec.proofs.gcm_laws.Goals as goal

pub returns : goal.returns
returns c =
    record {
      opens = open_sealed;
      opened = open_right;
      twice = text_twice;
      text_length = text_length;
      tag_length = tag_length;
      same_refl = same_refl;
      same_equal = same_equal;
      counters = counter_low;
    }
