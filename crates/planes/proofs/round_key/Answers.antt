-- `planes::round_key` meets its contract, word by word. Assumes nothing.
use Rattle.std.proofs.Common.{rules, ℕ, get_or}
use Rattle.circuit.proofs.Made.{made}
use Rattle.planes.specs.Rounds.{every_block, key_lane}
use Rattle.planes.proofs.round_key.Goals as goal

pub returns : goal.returns
unfolding key_lane
returns c =
    made _ (λ (i : ℕ). every_block c.args.n (get_or c.args.k.now i 0)) _ (λ x y q h. search rules) _ 32 c.from_fn.ensures.items
