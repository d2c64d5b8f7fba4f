-- The start place passes no free slice, and the bound. Assumes nothing.
use Rattle.guarantees.proofs.StartPlaces.{start_places}
use Rattle.guarantees.proofs.start_places.Goals as goal

pub returns : goal.returns
returns c = start_places
