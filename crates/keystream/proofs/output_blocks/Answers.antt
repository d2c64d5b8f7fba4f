-- `keystream::output_blocks` meets its contract. Assumes nothing.
use borrow.Author.Rules.{rules}
use Rattle.keystream.proofs.Output.{output}
use Rattle.keystream.proofs.output_blocks.Goals as goal

pub returns : goal.returns
returns c =
    output _ _ _ _ _ _ (search rules) c.counters.ensures c.encrypt.ensures c.bytes.ensures
