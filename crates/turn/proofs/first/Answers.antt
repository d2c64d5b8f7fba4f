-- `turn::first` meets its contract. Assumes nothing.
use Rattle.std.proofs.Common.{arith}
use Rattle.turn.proofs.first.Goals as goal

pub overflow_mul-result-2 : goal.overflow_mul-result-2
overflow_mul-result-2 c = omega (arith, c.requires.apart.within c.args.i c.requires.few)

pub overflow_add-result : goal.overflow_add-result
overflow_add-result c = omega (arith, c.requires.apart.within c.args.i c.requires.few)
