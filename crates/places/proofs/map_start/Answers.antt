-- `places::map_start` meets its contract. Assumes nothing.
use native.Mathlib.Omega.{arith}
use Rattle.model.specs.Geometry.{map_start}
use Rattle.model.proofs.Bounds.{map_start_small}
use Rattle.places.proofs.map_start.Goals as goal

pub overflow_add-result : goal.overflow_add-result
overflow_add-result c =
    omega (arith, map_start_small c.args.g c.requires.0 c.args.volume c.requires.1, c.header_start.ensures)

pub returns : goal.returns
unfolding map_start
returns c = omega (arith, c.header_start.ensures)
