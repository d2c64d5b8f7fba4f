-- What a release leaves, and what a claim shows. Assumes nothing.
use Rattle.guarantees.proofs.GivenBack.{slices_given_back}
use Rattle.guarantees.proofs.slices_given_back.Goals as goal

pub returns : goal.returns
returns c = slices_given_back
