-- `opening::no_session` meets its contract. Assumes nothing.
use mathlib.Core.Path.{refl}
use Rattle.model.specs.Session.{no_keys}
use Rattle.opening.proofs.no_session.Goals as goal

pub returns : goal.returns
unfolding no_keys
returns c = refl
