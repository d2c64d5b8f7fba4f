-- `ghash::absorb` meets its contract. The bytes that are left, from r, give the hash. Assumes nothing.
use Rattle.std.proofs.Common.{◌≡◌}
use Rattle.block.specs.Number.{block_number}
use Rattle.ghash.specs.Hash.{hash_from, pad}
use Rattle.ghash.proofs.absorb.Given as goal

abbrev pub invariant-loop-x : goal.invariant-loop-x
invariant-loop-x l =
    (l.x-iterator.size ≡ 16) × (hash_from (block_number l.h) (block_number l.r) (pad l.x-iterator.rest.now) ≡ hash_from (block_number l.h) (block_number l.initial.r) (pad l.s))
