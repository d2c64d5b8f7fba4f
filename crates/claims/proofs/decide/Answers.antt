-- `claims::decide` meets its contract. Assumes nothing.
use mathlib.Core.Path.{refl}
use Rattle.claims.specs.Answers.{walk_of}
use Rattle.claims.proofs.Claims.{decides}
use Rattle.claims.proofs.decide.Goals as goal

pub returns : goal.returns
returns c sized counted =
    let a = c.args in
    decides (walk_of a.g sized counted a.position a.start a.maps.now a.owners.now a.perm.now) a.volume a.address _ refl c.device_length.ensures
    c.all_open.ensures c.decide.ensures
