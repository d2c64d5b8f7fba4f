-- `mix::mix_laws` meets its contract. Assumes nothing.
use Rattle.mix.proofs.Laws.{sum_byte, doubled_byte, mixed_byte}
use Rattle.mix.proofs.mix_laws.Goals as goal

pub returns : goal.returns
returns c = record { sum = sum_byte; doubled = doubled_byte; mixed = mixed_byte }
