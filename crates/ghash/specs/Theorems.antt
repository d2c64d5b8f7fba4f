-- What is proved of GHASH beside the contracts. Assumes nothing.
use Rattle.std.specs.Prelude.{◌≡◌, ℕ, ◌*◌, List, [], ◌∷◌, ◌++◌, length}
use Rattle.block.specs.Bytes.{big_endian}
use Rattle.ghash.specs.Product.{product}
use Rattle.ghash.specs.Hash.{hash_from, ghash}

pub record GhashLaws : Type 0 where
  -- GHASH goes on from where a whole number of blocks left it.
  pub ++-from : (h y m : ℕ) (a b : List ℕ) → length a ≡ m * 16 → hash_from h y (a ++ b) ≡ hash_from h (hash_from h y a) b
  -- Test case 2 of the GCM specification: X_1, and GHASH(H, {}, C).
  pub examples :
      (product 0x0388dace60b6a392f328c2b971b2fe78 0x66e94bd4ef8a2c3b884cfa59ca342b2e
      ∷ ghash 0x66e94bd4ef8a2c3b884cfa59ca342b2e (big_endian 16 0x0388dace60b6a392f328c2b971b2fe78 ++ big_endian 16 0x80)
      ∷ [])
      ≡ (0x5e2ec746917062882c85b0685353deb7 ∷ 0xf38cbb1ad69223dcc3457ae5b6b0f885 ∷ [])
