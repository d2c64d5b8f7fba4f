-- `ghash::ghash_laws` meets its contract; the examples compute. Assumes nothing.
use Rattle.std.proofs.Common.{refl}
use Rattle.block.specs.Bytes.{number_after, big_endian}
use Rattle.ghash.specs.Product.{bit, next, steps, product}
use Rattle.ghash.specs.Hash.{hash_blocks, hash_from, ghash}
use Rattle.ghash.proofs.Hash.{hash_from-++}
use Rattle.ghash.proofs.ghash_laws.Goals as goal

pub returns : goal.returns
unfolding number_after big_endian bit next steps product hash_blocks hash_from ghash
returns c = record { ++-from = hash_from-++; examples = refl }
