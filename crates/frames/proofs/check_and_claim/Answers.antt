-- `frames::check_and_claim` meets its contract. Assumes nothing.
use mathlib.Core.Path.{sym}
use native.Mathlib.Omega.{arith}
use borrow.Author.Rules.{rules}
use Rattle.model.proofs.Tests.{bad_geometry_none}
use Rattle.std.proofs.lemmas.Result.{err_from_is_err_and}
use Rattle.claims.proofs.Claims.{geometry_answers, place_answers, length_answers}
use Rattle.frames.proofs.check_and_claim.Goals as goal

pub returns-in_err-check_geometry : goal.returns-in_err-check_geometry
returns-in_err-check_geometry c =
    let a = c.args in
    let p = err_from_is_err_and c.from_residual.result c.from_residual.ensures.1 in
    rw (p.1, p.2) (geometry_answers a.walk.now a.volume a.address c.requires _ c.in_err-check_geometry.ensures)

pub returns-then-g-walk : goal.returns-then-g-walk
returns-then-g-walk c =
    let a = c.args in
    place_answers a.walk.now a.volume a.address c.requires (bad_geometry_none _ _ 0 (sym c.in_ok-check_geometry.ensures)).0 c.if-g-walk.true

pub returns-then-g-gt-MOST_SLICES : goal.returns-then-g-gt-MOST_SLICES
returns-then-g-gt-MOST_SLICES c =
    let a = c.args in
    length_answers a.walk.now a.volume a.address c.requires (bad_geometry_none _ _ 0 (sym c.in_ok-check_geometry.ensures)).0
    c.if-g-walk.false (search (rules, c.well_formed)) c.if-g-gt-MOST_SLICES.true

pub claim-requires : goal.claim-requires
claim-requires c = ((bad_geometry_none _ _ 0 (sym c.in_ok-check_geometry.ensures)).0, c.requires, omega arith)
