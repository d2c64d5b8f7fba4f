-- `walk::walk_laws` meets its contract. Assumes nothing.
use Rattle.walk.proofs.Example.{example}
use Rattle.walk.proofs.Lines.{feed_takes, reads, pieces}
use Rattle.walk.proofs.Reached.{listed}
use Rattle.walk.proofs.walk_laws.Goals as goal

pub returns : goal.returns
returns c = record { example = example; listed = listed; takes = feed_takes; reads = reads; pieces = pieces _ }
