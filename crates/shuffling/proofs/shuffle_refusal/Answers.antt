-- `shuffling::shuffle_refusal` meets its contract: each return is the row that its tests pick. Assumes nothing.
use Rattle.std.proofs.Common.{◌≡◌, sym, ◌∙◌, arith, rules}
use borrow.Author.Tests.{eq-eqb, ne_eqb, lt-ltb, le-ltb}
use Rattle.refusals.specs.Numbers.{refuse, answer_number, refusal_number}
use Rattle.refusals.proofs.Positive.{refusal_positive}
use Rattle.model.specs.Shuffle.{shuffle_refusal}
use Rattle.model.proofs.Order.{bad_geometry-first}
use Rattle.shuffling.proofs.Refusals.{geometry_passed}
use Rattle.shuffling.proofs.shuffle_refusal.Goals as goal

pub returns-in_err-check_geometry : goal.returns-in_err-check_geometry
unfolding shuffle_refusal
returns-in_err-check_geometry c =
    let told = c.in_err-check_geometry.ensures in
    let refusal = c.in_err-check_geometry.field-0.0 in
    let same : answer_number c.from_residual.result ≡ refusal_number refusal = search rules in
    same ∙ told ∙ sym (bad_geometry-first 1 _ (rw told at (refusal_positive refusal)) _)

pub returns-then-list-g : goal.returns-then-list-g
unfolding refuse
returns-then-list-g c =
    let a = c.args in
    rw (ne_eqb a.list a.g.p c.if-list-g.true) at (geometry_passed a.g a.list a.tape a.position (sym c.in_ok-check_geometry.ensures))

pub returns-then-tape-position : goal.returns-then-tape-position
unfolding refuse
returns-then-tape-position c =
    let a = c.args in
    rw (eq-eqb a.list a.g.p (omega arith), lt-ltb a.tape a.position (omega arith)) at
    (geometry_passed a.g a.list a.tape a.position (sym c.in_ok-check_geometry.ensures))

pub returns : goal.returns
unfolding refuse
returns c =
    let a = c.args in
    rw (eq-eqb a.list a.g.p (omega arith), le-ltb a.tape a.position (omega arith)) at
    (geometry_passed a.g a.list a.tape a.position (sym c.in_ok-check_geometry.ensures))
