-- `schedule::key_planes` meets its contract. Assumes nothing.
use borrow.Author.Rules.{rules}
use Rattle.schedule.proofs.Blocks.{key_planes}
use Rattle.schedule.proofs.key_planes.Goals as goal

pub returns : goal.returns
returns c =
    key_planes _ _ c.put_keys.new.s _ _ c.expand-w.ensures (search rules) c.put_keys.ensures
    c.transpose.ensures
    c.first_lane.ensures
