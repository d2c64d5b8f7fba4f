-- `ghash::absorb_block` meets its contract: the sum by halves is the sum. Assumes nothing.
use Rattle.std.proofs.Common.{ℕ, sym, ap, ◌∙◌, rules}
use lib.Bits.{xor_block}
use Rattle.block.specs.Number.{block_number}
use Rattle.ghash.specs.Product.{product}
use Rattle.ghash.proofs.absorb_block.Goals as goal

pub returns : goal.returns
returns c =
    let a = c.args in
    c.multiply.ensures
    ∙ ap (λ (t : ℕ). product t (block_number a.h))
    (sym (xor_block 64 a.y.hi a.x.hi a.y.lo a.x.lo (search rules) (search rules)))
