-- `swaps::swap_laws` meets its contract. Assumes nothing.
use Rattle.swaps.proofs.Laws.{laws}
use Rattle.swaps.proofs.swap_laws.Goals as goal

pub returns : goal.returns
returns c = laws
