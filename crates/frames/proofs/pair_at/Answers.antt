-- `frames::pair_at` meets its contract. Assumes nothing.
use native.Mathlib.Omega.{arith}
use Rattle.frames.proofs.Pairs.{number_pair}
use Rattle.frames.proofs.pair_at.Goals as goal

pub returns : goal.returns
returns c = omega (arith, c.from_be_bytes.ensures, number_pair c.args.s.now c.args.at c.requires)
