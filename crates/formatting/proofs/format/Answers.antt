-- `formatting::format` meets its contract: what its refusals, its draw and its carrying out come to is the model's formatting
-- (`Carries.antt`). Assumes nothing.
use mathlib.Core.Path.{◌≡◌}
use borrow.Author.Rules.{rules}
use Rattle.refusals.specs.Numbers.{refusal_number, answer_number, unless_refused}
use Rattle.formatting.proofs.Carries.{need_asks, carry_out_asks, format_served, format_refused}
use Rattle.formatting.proofs.format.Goals as goal

pub returns-in_err-format_refusal : goal.returns-in_err-format_refusal
returns-in_err-format_refusal c =
    let a = c.args in
    let r = c.in_err-format_refusal.field-0.0 in
    let same : answer_number c.from_residual.result ≡ refusal_number r = search rules in
    rw same
    (format_refused a.device.now a.g a.volumes a.keys.now a.counts.now a.tape.now a.position.now.at r c.in_err-format_refusal.ensures)

pub tape_need-requires : goal.tape_need-requires
tape_need-requires c =
    let a = c.args in
    need_asks a.device.now a.g a.volumes a.keys.now a.counts.now a.tape.now a.position.now.at c.in_ok-format_refusal.ensures

pub carry_out-requires : goal.carry_out-requires
carry_out-requires c served =
    let a = c.args in
    carry_out_asks a.device.now a.g a.volumes a.keys.now a.counts.now a.tape.now a.position.now.at c.in_ok-format_refusal.ensures _
    c.tape_need.ensures _ c.draw-drawn.new.position.at c.draw-drawn.ensures

pub returns : goal.returns
unfolding unless_refused
returns c =
    let a = c.args in
    rw c.carry_out.ensures.0
    (format_served a.device.now a.g a.volumes a.keys.now a.counts.now a.tape.now a.position.now.at c.in_ok-format_refusal.ensures _
    c.tape_need.ensures _ c.draw-drawn.new.position.at c.draw-drawn.ensures _ c.carry_out.ensures.1)
