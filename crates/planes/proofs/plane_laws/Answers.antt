-- `planes::plane_laws` meets its contract. Assumes nothing.
use Rattle.planes.proofs.Laws.{laws}
use Rattle.planes.proofs.plane_laws.Goals as goal

pub returns : goal.returns
returns c = laws
