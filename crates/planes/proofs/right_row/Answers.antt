-- `planes::right_row` meets its contract, word by word. Assumes nothing.
use Rattle.std.proofs.Common.{rules}
use Rattle.circuit.proofs.Made.{mapped}
use Rattle.swaps.specs.Swaps.{right}
use Rattle.swaps.proofs.Laws.{rotated}
use Rattle.planes.proofs.right_row.Goals as goal

pub returns : goal.returns
returns c =
    mapped _ (right c.args.k) _ (λ x y q h. (search rules, search (rules, rotated))) _ _ 8 c.map.ensures.items
