-- `claims::all_open` meets its contract. Assumes nothing.
use mathlib.Core.Path.{refl}
use Rattle.model.specs.Session.{no_keys}
use Rattle.claims.proofs.all_open.Goals as goal

pub returns : goal.returns
unfolding no_keys
returns c = refl
