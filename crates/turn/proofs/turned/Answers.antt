-- `turn::turned` meets its contract. Assumes nothing.
use Rattle.turn.specs.Turn.{whole, turned_of}
use Rattle.turn.proofs.Laws.{append}
use Rattle.turn.proofs.turned.Goals as goal

pub returns : goal.returns
unfolding turned_of whole
returns c =
    simp (append, c.stage.ensures, c.stage-d.ensures, c.stage-c.ensures, c.stage-b.ensures, c.stage-a.ensures)
