-- `Walk::claim` of `claims` meets its contract: a walk after a frame 02 is one with lent tables. Assumes nothing.
use Rattle.claims.proofs.Walk.claim.Goals as goal

pub returns-clause-written : goal.returns-clause-written
returns-clause-written c = rw c.requires.1 (c.claim.ensures c.args.self.now.sized c.args.self.now.counted)
