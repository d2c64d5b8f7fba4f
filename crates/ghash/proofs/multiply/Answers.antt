-- `ghash::multiply` meets its contract. After i turns the steps that are left, from z and v, give the product.
-- Assumes nothing.
use Rattle.std.proofs.Common.{◌≡◌, suc, ◌+◌, ◌-◌, refl, ◌∙◌, arith}
use Rattle.ghash.specs.Product.{product}
use Rattle.ghash.proofs.Product.{bit-<, steps_turn, steps_done}
use Rattle.ghash.proofs.multiply.Goals as goal

pub loop-i-init : goal.loop-i-init
unfolding product
loop-i-init c = refl

pub add_if-z-requires : goal.add_if-z-requires
add_if-z-requires c = rw c.bit_at.ensures (bit-< _ _)

pub loop-i-preserved : goal.loop-i-preserved
loop-i-preserved c =
    let l = c.loop-i in
    let e : 128 - l.i ≡ suc (128 - (l.i + 1)) = omega arith in
    steps_turn _ l.i _ _ _ _ e c.bit_at.ensures c.add_if-z.ensures c.halve-v.ensures ∙ l.invariant

pub returns : goal.returns
returns c = steps_done _ _ _ _ _ (omega arith) ∙ c.loop-i.invariant
