-- `turn::turn_laws` meets its contract. Assumes nothing.
use Rattle.turn.proofs.Laws.{laws}
use Rattle.turn.proofs.turn_laws.Goals as goal

pub returns : goal.returns
returns c = laws
