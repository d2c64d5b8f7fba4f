-- `lanes::lane_laws` meets its contract. Assumes nothing.
use Rattle.lanes.proofs.Laws.{laws}
use Rattle.lanes.proofs.lane_laws.Goals as goal

pub returns : goal.returns
returns c = laws
