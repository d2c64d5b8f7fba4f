-- `circuit::sub8` meets its contract: it is the list of gates. Assumes nothing.
use mathlib.Core.Path.{refl}
use Rattle.circuit.specs.Circuit.{sub_words}
use Rattle.circuit.proofs.sub8.Goals as goal

pub returns : goal.returns
unfolding sub_words
returns c = refl
