-- A formatted stick opens to zeros, and points 2 and 3 hold from there on. Assumes nothing.
use Rattle.guarantees.proofs.Blank.{format_points}
use Rattle.guarantees.proofs.formatted_sticks.Goals as goal

pub returns : goal.returns
returns c = format_points
