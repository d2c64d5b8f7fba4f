-- `ghash::absorb` meets its contract. The bytes that are left, from r, give the hash. Assumes nothing.
use Rattle.std.proofs.Common.{◌∙◌}
use Rattle.ghash.proofs.Hash.{hash_from_turn, hash_from_done}
use Rattle.ghash.proofs.absorb.Goals as goal

pub loop-x-preserved : goal.loop-x-preserved
loop-x-preserved c =
    let s = c.in-Some.ensures.steps in
    let i = c.loop-x.invariant in
    (s.0 ∙ i.0, hash_from_turn _ _ _ _ _ _ i.0 s.1.0 s.1.1 s.1.2 c.load_block.ensures c.absorb_block-r.ensures ∙ i.1)

pub returns : goal.returns
returns c = hash_from_done _ _ _ c.in-None.ensures.steps.1.0 ∙ c.loop-x.invariant.1
