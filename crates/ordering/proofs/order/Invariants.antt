-- `ordering::order` meets its contract. Before each turn the run from here on comes to what the whole run does. Assumes nothing.
use Rattle.std.proofs.Common.{◌≡◌, ◌-◌, ◌≤◌, ◌<◌, length}
use Rattle.ordering.proofs.Turns.{onward}
use Rattle.ordering.proofs.order.Given as goal

abbrev pub invariant-loop-place : goal.invariant-loop-place
invariant-loop-place l =
    (l.position ≤ l.at) × (l.at ≤ length l.tape) × (l.place < length l.initial.list)
    × (onward l.place l.list l.tape l.at ≡ onward (length l.initial.list - 1) l.initial.list l.tape l.position)

abbrev pub decreases-loop-place : goal.decreases-loop-place
decreases-loop-place l = length l.tape - l.at
