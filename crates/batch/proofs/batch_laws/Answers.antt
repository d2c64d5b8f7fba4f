-- `batch::batch_laws` meets its contract. Assumes nothing.
use Rattle.batch.proofs.Laws.{laws}
use Rattle.batch.proofs.batch_laws.Goals as goal

pub returns : goal.returns
returns c = laws
