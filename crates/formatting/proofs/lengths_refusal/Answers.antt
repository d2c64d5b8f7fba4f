-- `formatting::lengths_refusal` meets its contract: each return is the row that its tests pick. Assumes nothing.
use mathlib.Core.Path.{◌≡◌, ◌∙◌}
use borrow.Author.Rules.{rules}
use Rattle.refusals.specs.Numbers.{refusal_number, answer_number}
use Rattle.formatting.proofs.Refusals.{allowed, wrong_geometry, wrong_counts, bad_count_lem, wrong_device, no_key, many_keys, wrong_keys, tape_short, lengths_right}
use Rattle.formatting.proofs.lengths_refusal.Goals as goal

-- ---- the rows
pub returns-in_err-check_geometry : goal.returns-in_err-check_geometry
returns-in_err-check_geometry c =
    let r = c.in_err-check_geometry.field-0.0 in
    let same : answer_number c.from_residual.result ≡ refusal_number r = search rules in
    same ∙ wrong_geometry _ _ _ _ _ _ _ r c.in_err-check_geometry.ensures

pub returns-then-counts-n : goal.returns-then-counts-n
returns-then-counts-n c = wrong_counts _ _ _ _ _ _ _ c.in_ok-check_geometry.ensures c.if-counts-n.true

pub returns-then-any_bad_count : goal.returns-then-any_bad_count
returns-then-any_bad_count c =
    bad_count_lem _ _ _ _ _ _ _ c.in_ok-check_geometry.ensures c.if-counts-n.false c.any_bad_count.ensures c.if-any_bad_count.true

pub device_length-requires : goal.device_length-requires
device_length-requires c = allowed _ c.in_ok-check_geometry.ensures

pub returns-then-device-device_length : goal.returns-then-device-device_length
returns-then-device-device_length c =
    wrong_device _ _ _ _ _ _ _ c.in_ok-check_geometry.ensures c.if-counts-n.false c.any_bad_count.ensures c.if-any_bad_count.false c.device_length.ensures
    c.if-device-device_length.true

pub returns-then-n-lt1 : goal.returns-then-n-lt1
returns-then-n-lt1 c =
    no_key _ _ _ _ _ _ _ c.in_ok-check_geometry.ensures c.if-counts-n.false c.any_bad_count.ensures c.if-any_bad_count.false c.device_length.ensures
    c.if-device-device_length.false c.if-n-lt1.true

pub returns-then-n-gt15 : goal.returns-then-n-gt15
returns-then-n-gt15 c =
    many_keys _ _ _ _ _ _ _ c.in_ok-check_geometry.ensures c.if-counts-n.false c.any_bad_count.ensures c.if-any_bad_count.false c.device_length.ensures
    c.if-device-device_length.false c.if-n-lt1.false c.if-n-gt15.true

pub returns-then-keys-n : goal.returns-then-keys-n
returns-then-keys-n c =
    wrong_keys _ _ _ _ _ _ _ c.in_ok-check_geometry.ensures c.if-counts-n.false c.any_bad_count.ensures c.if-any_bad_count.false c.device_length.ensures
    c.if-device-device_length.false c.if-n-lt1.false c.if-n-gt15.false c.if-keys-n.true

pub tape_need-requires : goal.tape_need-requires
tape_need-requires c = (allowed _ c.in_ok-check_geometry.ensures, c.if-n-gt15.false)

pub returns-then-is_short : goal.returns-then-is_short
returns-then-is_short c =
    tape_short _ _ _ _ _ _ _ c.in_ok-check_geometry.ensures c.if-counts-n.false c.any_bad_count.ensures c.if-any_bad_count.false c.device_length.ensures
    c.if-device-device_length.false c.if-n-lt1.false c.if-n-gt15.false c.if-keys-n.false c.tape_need.ensures c.is_short.ensures c.if-is_short.true

pub returns : goal.returns
returns c =
    lengths_right _ _ _ _ _ _ _ c.in_ok-check_geometry.ensures c.if-counts-n.false c.any_bad_count.ensures c.if-any_bad_count.false c.device_length.ensures
    c.if-device-device_length.false c.if-n-lt1.false c.if-n-gt15.false c.if-keys-n.false c.tape_need.ensures c.is_short.ensures
    c.if-is_short.false
