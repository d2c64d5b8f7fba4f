-- `keystream::put_counter` meets its contract. Assumes nothing.
use borrow.Author.Rules.{rules}
use Rattle.keystream.proofs.Turns.{counter_put}
use Rattle.keystream.proofs.put_counter.Goals as goal

pub returns : goal.returns
returns c =
    let a = c.args in
    counter_put a.s.now a.at a.b.hi a.b.lo _ _ (search rules) (search rules) (search rules) (search rules)
    c.first_word.ensures c.second_word.ensures
