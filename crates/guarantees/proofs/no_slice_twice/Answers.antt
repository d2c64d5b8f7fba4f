-- No slice is held twice. Assumes nothing.
use Rattle.guarantees.proofs.Points.{no_slice_twice}
use Rattle.guarantees.proofs.no_slice_twice.Goals as goal

pub returns : goal.returns
returns c = no_slice_twice
