-- `ctr_spec::ctr_laws` meets its contract. Assumes nothing.
use Rattle.ctr_spec.proofs.Stream.{ctr_twice, ctr_length, ctr_part, keystream_get_or}
use Rattle.ctr_spec.proofs.Counter.{counter_first, counter_next, counter_wraps, keystream_byte_lem, over_from, over_whole}
use Rattle.ctr_spec.proofs.ctr_laws.Goals as goal

pub returns : goal.returns
returns c =
    record {
      twice = ctr_twice;
      ctr_length = ctr_length;
      part = ctr_part;
      first = counter_first;
      next = counter_next;
      wraps = counter_wraps;
      byte = keystream_byte_lem;
      bytes = keystream_get_or;
      over_round_keys = over_whole;
      over_round_keys_from = over_from;
    }
