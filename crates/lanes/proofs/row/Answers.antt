-- `lanes::row` meets its contract, word by word. Assumes nothing.
use Rattle.std.proofs.Common.{rules, ℕ, ◌+◌, get_or}
use Rattle.std.proofs.Math.Nat.{add-zero}
use Rattle.circuit.proofs.Made.{made}
use Rattle.lanes.proofs.row.Goals as goal

pub returns : goal.returns
returns c =
    let e = made _ (λ (i : ℕ). get_or c.args.x.now (c.args.at + i) 0) _ (λ x y q h. search rules) _ 8 c.from_fn.ensures.items in
    rw add-zero at e
