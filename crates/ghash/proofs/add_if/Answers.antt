-- `ghash::add_if` meets its contract. Assumes nothing.
use Rattle.std.proofs.Common.{rules}
use Rattle.ghash.proofs.Product.{add_masked}
use Rattle.ghash.proofs.add_if.Goals as goal

pub returns : goal.returns
returns c =
    let a = c.args in
    add_masked a.z.hi a.z.lo a.v.hi a.v.lo a.b c.mask-m.result (search rules) (search rules) (search rules)
    c.requires
    c.mask-m.ensures
