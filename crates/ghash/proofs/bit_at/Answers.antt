-- `ghash::bit_at` meets its contract. Assumes nothing.
use Rattle.std.proofs.Common.{rules}
use Rattle.ghash.proofs.Product.{bit_hi, bit_lo}
use Rattle.ghash.proofs.bit_at.Goals as goal

pub returns-then-i-lt64 : goal.returns-then-i-lt64
returns-then-i-lt64 c =
    let a = c.args in
    bit_hi a.x.hi a.x.lo (search rules) a.i c.if-i-lt64.true

pub returns-else-i-lt64 : goal.returns-else-i-lt64
returns-else-i-lt64 c =
    let a = c.args in
    bit_lo a.x.hi a.x.lo (search rules) a.i c.if-i-lt64.false c.requires
