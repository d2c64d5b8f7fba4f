-- `lanes::each_lane` meets its contract: after j turns the first j lanes are changed. Assumes nothing.
use Rattle.std.proofs.Common.{◌≡◌, ℕ, List}
use Rattle.lanes.specs.Lanes.{each_lane}
use Rattle.lanes.proofs.each_lane.Given as goal

abbrev pub invariant-loop-j : goal.invariant-loop-j
invariant-loop-j k l =
    (g : List ℕ → List ℕ) → ((x y : List ℕ) → goal.F-post k l.f x y → y ≡ g x) → l.s ≡ each_lane g l.j l.initial.s
