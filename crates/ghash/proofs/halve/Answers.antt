-- `ghash::halve` meets its contract. Assumes nothing.
use Rattle.std.proofs.Common.{rules}
use Rattle.ghash.proofs.Product.{next_halves}
use Rattle.ghash.proofs.halve.Goals as goal

pub returns : goal.returns
returns c =
    let v = c.args.v in
    next_halves v.hi v.lo (search rules) c.mask-m.result c.mask-m.ensures
