-- `ghash::multiply` meets its contract. After i turns the steps that are left, from z and v, give the product.
-- Assumes nothing.
use Rattle.std.proofs.Common.{◌≡◌, ◌-◌}
use Rattle.block.specs.Number.{block_number}
use Rattle.ghash.specs.Product.{steps, product}
use Rattle.ghash.proofs.multiply.Given as goal

abbrev pub invariant-loop-i : goal.invariant-loop-i
invariant-loop-i l =
    steps (128 - l.i) l.i (block_number l.x) (block_number l.z) (block_number l.v) ≡ product (block_number l.x) (block_number l.initial.v)
