-- `block::load_half` meets its contract, byte by byte. Assumes nothing.
use Rattle.std.proofs.Common.{rules, ◌∙◌}
use Rattle.block.proofs.Window.{number_eight}
use Rattle.block.proofs.load_half.Goals as goal

pub returns : goal.returns
returns c =
    let a = c.args in
    c.from_be_bytes.ensures ∙ number_eight a.s.now c.from_fn.result a.at (search rules) (search rules) (search rules) (search rules) (search rules) (search rules) (search rules) (search rules)
