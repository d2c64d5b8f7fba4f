-- `shuffling::set_in_order` meets its contract. After i turns the first i elements are in order. Assumes nothing.
use Rattle.std.proofs.Common.{◌≡◌, take}
use Rattle.model.specs.Shuffle.{in_order}
use Rattle.shuffling.proofs.set_in_order.Given as goal

abbrev pub invariant-loop-i : goal.invariant-loop-i
invariant-loop-i l = take l.i l.list ≡ in_order l.i
