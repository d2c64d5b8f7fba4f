-- `bench_bare::mix_byte` meets its contract: the products by 02 and 03 are xtime, and xtime and the byte. Assumes nothing.
use Rattle.rounds.specs.State.{mix_byte}
use Rattle.rounds.proofs.Linear.{times_2, times_3}
use Rattle.bench_bare.proofs.mix_byte.Goals as goal

pub returns : goal.returns
unfolding mix_byte
returns c = rw (times_2, times_3) (rw (c.xtime.ensures, c.xtime-2.ensures))
