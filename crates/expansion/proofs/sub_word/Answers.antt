-- `expansion::sub_word` meets its contract. Assumes nothing.
use borrow.Author.Rules.{rules}
use Rattle.expansion.proofs.Bits.{looked_up_word}
use Rattle.expansion.proofs.sub_word.Goals as goal

pub returns : goal.returns
returns c =
    looked_up_word _ c.put_bits.new.s _ (search rules) c.put_bits.ensures c.sub_rows.ensures c.get_bits.ensures
