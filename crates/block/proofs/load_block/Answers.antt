-- `block::load_block` meets its contract. Assumes nothing.
use Rattle.std.proofs.Common.{ℕ, ◌+◌, ◌*◌, ◌^◌, sym, ◌∙◌, ap₂}
use Rattle.block.proofs.Window.{number_halves}
use Rattle.block.proofs.load_block.Goals as goal

pub returns : goal.returns
returns c =
    let a = c.args in
    ap₂ (λ (h l : ℕ). h * 2 ^ 64 + l) c.load_half.ensures c.load_half-2.ensures ∙ sym (number_halves a.s.now a.at)
