-- `aes::aes_laws` meets its contract. Assumes nothing.
use mathlib.Core.Path.{refl}
use Rattle.aes.specs.KeyExpansion.{key_expansion}
use Rattle.aes.specs.Cipher.{cipher}
use Rattle.aes.proofs.Schedule.{schedule_length}
use Rattle.aes.proofs.aes_laws.Goals as goal

pub returns : goal.returns
unfolding key_expansion cipher
returns c = record { schedule_length = λ key h. schedule_length key h 52; cipher_length = λ w block. refl }
