-- `circuit::circuit_laws` meets its contract. Assumes nothing.
use Rattle.circuit.proofs.Laws.{sub_byte}
use Rattle.circuit.proofs.circuit_laws.Goals as goal

pub returns : goal.returns
returns c = record { at = sub_byte }
