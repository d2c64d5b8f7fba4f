-- `expansion::put_bits` meets its contract: the stores are a row put. Assumes nothing.
use mathlib.Core.Path.{ap, ◌∙◌}
use native.Mathlib.Omega.{arith}
use Rattle.lanes.specs.Lanes.{put_row}
use Rattle.lanes.proofs.Rows.{row_same}
use Rattle.expansion.specs.Words.{shifted}
use Rattle.expansion.proofs.put_bits.Goals as goal

pub returns : goal.returns
unfolding put_row shifted
returns c = row_same c.args.s.now 0 (shifted c.from-p.result) (omega arith) ∙ ap shifted c.from-p.ensures
