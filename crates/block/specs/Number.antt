-- The number of a block of 128 bits. Assumes nothing.
use Rattle.std.specs.Prelude.{ℕ, ◌+◌, ◌*◌, ◌^◌}
use Rattle.block.specs.declared.Block.{Block}

-- The number whose 128 bits the two halves hold.
abbrev pub block_number : Block → ℕ
block_number b = b.hi * 2 ^ 64 + b.lo
