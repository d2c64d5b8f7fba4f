-- `places::number_at` meets its contract. Assumes nothing.
use mathlib.Core.Path.{◌∙◌}
use Rattle.places.proofs.Numbers.{number_at_bytes}
use Rattle.places.proofs.number_at.Goals as goal

pub returns : goal.returns
returns c = c.from_be_bytes.ensures ∙ number_at_bytes c.args.s.now c.args.at c.requires
