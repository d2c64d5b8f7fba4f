-- The bench cases hold: each row computes. Assumes nothing.
use mathlib.Core.Path.{refl}
use Rattle.refusals.specs.Numbers.{refuse}
use Rattle.field.specs.Field.{xtimes, times_bits, times, squared, squares, inverse}
use Rattle.field.specs.Sbox.{bit, affine_bit, affine, sbox}
use Rattle.block.specs.Bytes.{number_after, big_endian}
use Rattle.ctr_spec.specs.CounterMode.{increment}
use Rattle.model.specs.Geometry.{bad_geometry, any_bad_count, map_blocks, header_blocks, device_length, map_start, slice_start, iv_start, block_start}
use Rattle.model.specs.Session.{standing, asked, short}
use Rattle.model.specs.Search.{search, first_free}
use Rattle.model.specs.Opening.{with_tables}
use Rattle.model.specs.Parts.{any_below, joined}
use Rattle.model.specs.Permutation.{place_of}
use Rattle.model.specs.Write.{write_refusal, write_model}
use Rattle.model.specs.Release.{release_refusal, release_model}
use Rattle.model.specs.Maps.{bad_in_block}
use Rattle.model.specs.Close.{close_model}
use Rattle.model.specs.Format.{format_need, format_refusal}
use Rattle.model.specs.Shuffle.{in_order, exchanged, ordered, draws, run, shuffle_refusal, shuffle_model}
use Rattle.model.specs.Bench.{cases}
use Rattle.model.proofs.bench_cases.Goals as goal

infixr 5 ◌and◌
◌and◌ : {A B : Type 0} → A → B → A × B
◌and◌ row rows = (row, rows)

pub returns : goal.returns
unfolding cases refuse bad_geometry map_blocks header_blocks device_length map_start slice_start iv_start block_start standing asked short
    search first_free with_tables any_below any_bad_count bad_in_block write_refusal write_model place_of release_refusal release_model close_model format_need format_refusal
    joined in_order exchanged ordered draws run shuffle_refusal shuffle_model xtimes times_bits times squared squares inverse bit affine_bit affine sbox
    number_after big_endian increment
returns c =
    refl and refl and refl and refl and refl and refl and refl and refl and refl and refl and refl and refl and
    refl and refl and refl and refl and refl and refl and refl and refl and refl and refl and refl and refl and
    refl and refl and refl and refl and refl and refl and refl and refl and refl and refl and refl and refl and
    refl and refl and refl and refl and refl and refl and refl and refl and refl and refl and refl and refl and
    refl and refl and refl and refl and refl and refl and refl and refl and refl and refl and refl and refl and
    refl and refl and refl and refl and refl and refl and refl and refl and refl and refl and refl and refl and refl and refl and tt
