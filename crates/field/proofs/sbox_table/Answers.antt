-- `field::sbox_table` meets its contract: the test computes over the table of the source. Assumes nothing.
use mathlib.Core.Path.{refl}
use Rattle.field.specs.Field.{xtimes, times_bits, times, squared, squares, inverse}
use Rattle.field.specs.Sbox.{bit, affine_bit, affine, sbox}
use Rattle.field.proofs.Rules.{is_sbox, sbox-rule}
use Rattle.field.proofs.sbox_table.Goals as goal

pub returns : goal.returns
unfolding is_sbox xtimes times_bits times squared squares inverse bit affine_bit affine sbox
returns c = sbox-rule _ tt refl
