-- `packing::packing_laws` meets its contract. Assumes nothing.
use Rattle.packing.proofs.Laws.{laws}
use Rattle.packing.proofs.packing_laws.Goals as goal

pub returns : goal.returns
returns c = laws
