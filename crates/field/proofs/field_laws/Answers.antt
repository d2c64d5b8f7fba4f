-- `field::field_laws` meets its contract. Assumes nothing.
use mathlib.Core.Path.{refl}
use Rattle.field.specs.Field.{xtimes, times_bits, times, squared, squares, inverse}
use Rattle.field.specs.Sbox.{bit, affine_bit, affine, sbox}
use Rattle.field.proofs.Rules.{times-inverse}
use Rattle.field.proofs.field_laws.Goals as goal

pub returns : goal.returns
unfolding xtimes times_bits times squared squares inverse bit affine_bit affine sbox
returns c = record { inverts = times-inverse; zero = refl; examples = refl }
