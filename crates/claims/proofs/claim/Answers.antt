-- `claims::claim` meets its contract: what the engine decided is what its model comes to (`Claims.antt`). Assumes nothing.
use Prim.Native.Nat.{◌*◌}
use mathlib.Core.Path.{refl}
use mathlib.Core.Bool.{true}
use native.Mathlib.Omega.{arith}
use Rattle.model.proofs.Bounds.{offset_of_lt}
use Rattle.model.proofs.Requests.{write_refusal_none}
use Rattle.claims.specs.Answers.{walk_of}
use Rattle.claims.proofs.Claims.{zeros-length, claim_asked, refusal_answers, full_answers, rewrite_answers, claim_answers}
use Rattle.claims.proofs.claim.Goals as goal

pub serve-requires : goal.serve-requires
serve-requires c =
    let a = c.args in
    let rewrites = c.in-Rewrite.ensures true 0 in (
      c.requires.0,
      rewrites.slice,
      offset_of_lt a.g c.requires.0 a.address,
      omega (arith, rewrites.enough, zeros-length (4096 * 4112)),
      omega (arith, (write_refusal_none _ _ _ _ _ _ _ _ rewrites.none).stands.usable.place),
    )

pub assign-requires : goal.assign-requires
assign-requires c =
    let a = c.args in
    let claims = c.in-Claim.ensures true 0 in
    let w = walk_of a.g true 0 a.position.now a.start.now a.maps.now a.owners.now a.perm.now in
    let asked = claim_asked w a.volume a.address _ _ claims c.requires.1 in (
      omega (arith, c.requires.2),
      omega (arith, asked.0, c.requires.1),
      omega (arith, claims.0.slice, c.requires.3),
      omega (arith, claims.0.slice, c.requires.0.slices_most),
      asked.1,
    )

pub overflow_add-probes : goal.overflow_add-probes
overflow_add-probes c = omega (arith, (c.in-Claim.ensures true 0).1.inside, c.requires.0.slices_most)

pub overflow_sub-probes : goal.overflow_sub-probes
overflow_sub-probes c = omega (arith, (c.in-Claim.ensures true 0).1.from)

pub serve-requires-in-Claim : goal.serve-requires-in-Claim
serve-requires-in-Claim c =
    let a = c.args in
    let claims = c.in-Claim.ensures true 0 in (
      c.requires.0,
      claims.0.slice,
      offset_of_lt a.g c.requires.0 a.address,
      omega (arith, claims.0.enough, zeros-length (4096 * 4112), c.claim_need-drawn.ensures),
      omega (arith, claims.1.from, claims.1.inside),
    )

pub returns-in-Refused : goal.returns-in-Refused
returns-in-Refused c sized counted =
    let a = c.args in
    refusal_answers (walk_of a.g sized counted a.position.now a.start.now a.maps.now a.owners.now a.perm.now) a.volume a.address
    c.in-Refused.refusal c.in-Refused.probes (c.in-Refused.ensures sized counted)

pub returns-in-Full : goal.returns-in-Full
returns-in-Full c sized counted =
    let a = c.args in
    full_answers (walk_of a.g sized counted a.position.now a.start.now a.maps.now a.owners.now a.perm.now) a.volume a.address
    (c.in-Full.ensures sized counted).0

pub returns-in-Rewrite : goal.returns-in-Rewrite
returns-in-Rewrite c sized counted =
    let a = c.args in
    let w = walk_of a.g sized counted a.position.now a.start.now a.maps.now a.owners.now a.perm.now in
    rewrite_answers w a.volume a.address _ _ _ (c.in-Rewrite.ensures sized counted).outcome (c.serve.ensures w refl refl refl)

pub returns-in-Claim : goal.returns-in-Claim
returns-in-Claim c sized counted =
    let a = c.args in
    let w = walk_of a.g sized counted a.position.now a.start.now a.maps.now a.owners.now a.perm.now in
    let claims = c.in-Claim.ensures sized counted in
    let asked = claim_asked w a.volume a.address _ _ claims c.requires.1 in
    claim_answers w a.volume a.address _ _ _ _ _ _ _ claims.0.outcome asked.0
    claims.0.slice claims.1.from
    c.assign.ensures.mapped c.assign.ensures.owned c.claim_need-drawn.ensures (c.serve-in-Claim.ensures _ refl refl refl)
