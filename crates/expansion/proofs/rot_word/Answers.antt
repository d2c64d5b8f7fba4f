-- `expansion::rot_word` meets its contract. Assumes nothing.
use Rattle.std.proofs.Common.{rules}
use Rattle.expansion.proofs.Numbers.{turned_word}
use Rattle.expansion.proofs.rot_word.Goals as goal

pub returns : goal.returns
returns c = rw c.rotate_left.ensures (turned_word c.args.p (search rules))
