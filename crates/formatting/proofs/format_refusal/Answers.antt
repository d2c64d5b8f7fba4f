-- `formatting::format_refusal` meets its contract. Assumes nothing.
use mathlib.Core.Path.{◌≡◌, ◌∙◌}
use native.Mathlib.Omega.{arith}
use borrow.Author.Rules.{rules}
use Rattle.refusals.specs.Numbers.{refusal_number, answer_number, refuse}
use Rattle.formatting.proofs.Refusals.{wrong_lengths, formattable, keys_tried}
use Rattle.formatting.proofs.format_refusal.Goals as goal

pub returns-in_err-lengths_refusal : goal.returns-in_err-lengths_refusal
returns-in_err-lengths_refusal c =
    let r = c.in_err-lengths_refusal.field-0.0 in
    let same : answer_number c.from_residual.result ≡ refusal_number r = search rules in
    same ∙ wrong_lengths _ _ _ _ _ _ _ r c.in_err-lengths_refusal.ensures _

pub tape_need-requires : goal.tape_need-requires
tape_need-requires c = let ok = formattable _ _ _ _ _ _ _ c.in_ok-lengths_refusal.ensures in (ok.allowed, ok.count.1)

pub bytes_at-drawn-requires : goal.bytes_at-drawn-requires
bytes_at-drawn-requires c = let ok = formattable _ _ _ _ _ _ _ c.in_ok-lengths_refusal.ensures in omega (arith, ok.enough)

pub lower_opens-requires : goal.lower_opens-requires
lower_opens-requires c =
    let ok = formattable _ _ _ _ _ _ _ c.in_ok-lengths_refusal.ensures in
    record { allowed = ok.allowed; most = ok.count.1; keyed = ok.keyed; long = c.bytes_at-drawn.ensures.1 ∙ c.tape_need.ensures }

pub returns-then-lower_opens : goal.returns-then-lower_opens
unfolding refuse
returns-then-lower_opens c =
    let a = c.args in
    keys_tried a.device a.g a.n a.keys.now a.counts.now a.tape.now a.position c.in_ok-lengths_refusal.ensures c.tape_need.ensures
    c.bytes_at-drawn.ensures.0 c.lower_opens.ensures c.if-lower_opens.true

pub returns : goal.returns
unfolding refuse
returns c =
    let a = c.args in
    keys_tried a.device a.g a.n a.keys.now a.counts.now a.tape.now a.position c.in_ok-lengths_refusal.ensures c.tape_need.ensures
    c.bytes_at-drawn.ensures.0 c.lower_opens.ensures c.if-lower_opens.false
