-- `opening::open_refusal` meets its contract: each return is the row that its tests pick. Assumes nothing.
use mathlib.Core.Path.{◌≡◌, ◌∙◌}
use native.Mathlib.Omega.{arith}
use borrow.Author.Rules.{rules}
use Rattle.refusals.specs.Numbers.{refusal_number, answer_number}
use Rattle.opening.proofs.Refusals.{allowed, wrong_geometry, wrong_device, wrong_key, wrong_maps, wrong_owners, lengths_right}
use Rattle.opening.proofs.open_refusal.Goals as goal

-- ---- the rows
pub returns-in_err-check_geometry : goal.returns-in_err-check_geometry
returns-in_err-check_geometry c =
    let r = c.in_err-check_geometry.field-0.0 in
    let same : answer_number c.from_residual.result ≡ refusal_number r = search rules in
    same ∙ wrong_geometry _ _ _ _ _ _ r c.in_err-check_geometry.ensures

pub device_length-requires : goal.device_length-requires
device_length-requires c = allowed _ c.in_ok-check_geometry.ensures

pub returns-then-device-device_length : goal.returns-then-device-device_length
returns-then-device-device_length c =
    wrong_device _ _ _ _ _ _ c.in_ok-check_geometry.ensures c.device_length.ensures c.if-device-device_length.true

pub returns-then-key-ne32 : goal.returns-then-key-ne32
returns-then-key-ne32 c =
    wrong_key _ _ _ _ _ _ c.in_ok-check_geometry.ensures c.device_length.ensures c.if-device-device_length.false c.if-key-ne32.true

pub overflow_mul-g : goal.overflow_mul-g
overflow_mul-g c = omega (arith, (allowed _ c.in_ok-check_geometry.ensures).slices_most)

pub returns-then-maps-g : goal.returns-then-maps-g
returns-then-maps-g c =
    wrong_maps _ _ _ _ _ _ c.in_ok-check_geometry.ensures c.device_length.ensures c.if-device-device_length.false c.if-key-ne32.false
    c.if-maps-g.true

pub returns-then-owners-g : goal.returns-then-owners-g
returns-then-owners-g c =
    wrong_owners _ _ _ _ _ _ c.in_ok-check_geometry.ensures c.device_length.ensures c.if-device-device_length.false c.if-key-ne32.false
    c.if-maps-g.false c.if-owners-g.true

pub check_permutation-requires : goal.check_permutation-requires
check_permutation-requires c = (allowed _ c.in_ok-check_geometry.ensures).slices_most

pub returns : goal.returns
returns c =
    c.check_permutation.ensures
    ∙ lengths_right _ _ _ _ _ _ c.in_ok-check_geometry.ensures c.device_length.ensures c.if-device-device_length.false c.if-key-ne32.false
    c.if-maps-g.false c.if-owners-g.false
