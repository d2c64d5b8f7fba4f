-- `lanes::sub_rows` meets its contract: after r turns the first r rows are done, and after j turns inside the first j lanes of row r.
-- Assumes nothing.
use Rattle.std.proofs.Common.{◌≡◌, ◌*◌}
use Rattle.circuit.specs.Circuit.{sub_words}
use Rattle.lanes.specs.Lanes.{each_row, sub_rows}
use Rattle.lanes.proofs.sub_rows.Given as goal

abbrev pub invariant-loop-j : goal.invariant-loop-j
invariant-loop-j l = l.s ≡ each_row sub_words (128 * l.r) l.j l.initial.s

abbrev pub invariant-loop-r : goal.invariant-loop-r
invariant-loop-r l = l.s ≡ sub_rows l.r l.n l.initial.s
