-- `expansion::load_word` meets its contract. Assumes nothing.
use Rattle.std.proofs.Common.{rules}
use Rattle.expansion.proofs.Numbers.{bytes_word}
use Rattle.expansion.proofs.load_word.Goals as goal

pub returns : goal.returns
returns c = rw c.from_be_bytes.ensures (bytes_word _ _ _ _ (search rules) (search rules) (search rules) (search rules))
