use Rattle.guarantees.proofs.Points.{points23}
use Rattle.guarantees.proofs.points_two_and_three.Goals as goal

pub returns : goal.returns
returns c = points23
