-- `schedule::first_lane` meets its contract, word by word. Assumes nothing.
use Rattle.std.proofs.Common.{rules, ℕ, ◌*◌, get_or}
use Rattle.circuit.proofs.Made.{made}
use Rattle.lanes.specs.Lanes.{lane_at}
use Rattle.schedule.proofs.first_lane.Goals as goal

pub returns : goal.returns
unfolding lane_at
returns c = made _ (λ (i : ℕ). get_or c.args.s.now (16 * i) 0) _ (λ x y q h. search rules) _ 32 c.from_fn.ensures.items
