-- SP 800-38D, section 6.4: GHASH (Algorithm 2), and the padding of section 7.1. Assumes nothing.
use Rattle.std.specs.Prelude.{ℕ, zero, suc, ◌-◌, ◌/◌, ◌%◌, List, ◌++◌, length, take, drop, replicate, bit_xor}
use Rattle.block.specs.Bytes.{number}
use Rattle.ghash.specs.Product.{product}

-- Y after the first n blocks of x, from y: each is (Y + X_i) • H.
unfoldable pub hash_blocks : ℕ → ℕ → ℕ → List ℕ → ℕ
hash_blocks h zero y x = y
hash_blocks h (suc n) y x = hash_blocks h n (product (bit_xor y (number (take 16 x))) h) (drop 16 x)

-- Y after all blocks of x, from y, under the hash subkey h.
unfoldable pub hash_from : ℕ → ℕ → List ℕ → ℕ
hash_from h y x = hash_blocks h (length x / 16) y x

-- GHASH of x, a whole number of blocks, under the hash subkey h: Y_0 is 0.
unfoldable pub ghash : ℕ → List ℕ → ℕ
ghash h x = hash_from h 0 x

-- Bytes with zeros up to a whole number of blocks (7.1, step 4).
unfoldable pub pad : List ℕ → List ℕ
pad l = l ++ replicate ((16 - length l % 16) % 16) 0
