-- `expansion::get_bits` meets its contract. Assumes nothing.
use Rattle.expansion.proofs.Bits.{gathered}
use Rattle.expansion.proofs.get_bits.Goals as goal

pub returns : goal.returns
returns c =
    gathered c.lowest.ensures c.lowest-2.ensures c.lowest-3.ensures c.lowest-4.ensures c.lowest-5.ensures
    c.lowest-6.ensures
    c.lowest-7.ensures
    c.lowest-8.ensures
