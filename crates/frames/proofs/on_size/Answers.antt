-- `frames::on_size` meets its contract: each outcome by its law (`Frames.antt`). Assumes nothing.
use mathlib.Core.Path.{◌≡◌, sym}
use native.Mathlib.Omega.{arith}
use borrow.Author.Rules.{rules}
use lib.ListN.{length, replicate}
use Rattle.refusals.specs.declared.Refusal.TheVariants.{BadGeometry, MalformedLine}
use Rattle.std.proofs.lemmas.Result.{err_from_is_err_and}
use Rattle.claims.proofs.Claims.{refused_answers}
use Rattle.frames.specs.Frames.{size_of}
use Rattle.frames.proofs.Frames.{accepted-answers, state_of_empty, on_size_wrong_length, on_size_again, on_size_large, on_size_bad, on_size_accepted}
use Rattle.frames.proofs.on_size.Goals as goal

pub returns-then-fields-ne6 : goal.returns-then-fields-ne6
returns-then-fields-ne6 c = refused_answers c.args.walk.now MalformedLine (on_size_wrong_length _ _ c.if-fields-ne6.true)

pub returns-then-walk : goal.returns-then-walk
returns-then-walk c = refused_answers c.args.walk.now MalformedLine (on_size_again _ _ c.if-fields-ne6.false c.if-walk.true)

pub returns-then-g-gt-MOST_SLICES : goal.returns-then-g-gt-MOST_SLICES
returns-then-g-gt-MOST_SLICES c =
    let read : record { b = c.from.result; s = c.from-2.result; p = c.from-3.result } ≡ size_of c.args.fields.now = cc in
    refused_answers c.args.walk.now BadGeometry (on_size_large _ _ c.if-fields-ne6.false c.if-walk.false _ read c.if-g-gt-MOST_SLICES.true)

pub returns-in_err-check_geometry : goal.returns-in_err-check_geometry
returns-in_err-check_geometry c =
    let read : record { b = c.from.result; s = c.from-2.result; p = c.from-3.result } ≡ size_of c.args.fields.now = cc in
    let p = err_from_is_err_and c.from_residual.result c.from_residual.ensures.1 in
    rw (p.1, p.2)
    (refused_answers c.args.walk.now _
    (on_size_bad _ _ c.if-fields-ne6.false c.if-walk.false _ read c.if-g-gt-MOST_SLICES.false _ c.in_err-check_geometry.ensures))

pub returns : goal.returns
returns c =
    let w = c.args.walk.now in
    let read : record { b = c.from.result; s = c.from-2.result; p = c.from-3.result } ≡ size_of c.args.fields.now = cc in
    let maps : length w.maps ≡ 3840 = search (rules, c.well_formed) in
    let owners : length w.owners ≡ 256 = search (rules, c.well_formed) in
    let cleared : c.fill.new.self ≡ replicate (length w.owners) 0 = search rules in
    accepted-answers
    (state_of_empty _ _ _ _ w.perm (length w.maps) (length w.owners) c.unmap.ensures cleared (omega arith) (omega arith))
    (on_size_accepted _ _ c.if-fields-ne6.false c.if-walk.false _ read c.if-g-gt-MOST_SLICES.false (sym c.in_ok-check_geometry.ensures))
