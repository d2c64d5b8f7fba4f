-- GHASH of the padded parts and their lengths, as the code takes it part by part. Assumes nothing.
use Prim.Native.Nat.{ℕ, ◌+◌, ◌*◌, ◌/◌, ◌%◌, ◌^◌, ◌<◌, ◌≤◌}
use mathlib.Core.Path.{◌≡◌, sym, ap, ap₂, ◌∙◌}
use mathlib.Core.List.{List, ◌++◌}
use native.Mathlib.Nat.{zero-add, mod-eq_of_lt}
use native.Mathlib.Omega.{arith}
use lib.Arith.{digits_lt}
use lib.ListN.{length, length-append}
use lib.Seq.{take_all}
use lib.Bits.{bit_xor}
use Rattle.block.specs.Bytes.{number, big_endian}
use Rattle.block.proofs.Bytes.{big_endian-++, number-big_endian, big_endian-length}
use Rattle.ghash.specs.Product.{product}
use Rattle.ghash.specs.Hash.{hash_blocks, hash_from, ghash, pad}
use Rattle.ghash.proofs.Hash.{pad-length, hash_from-++}
use Rattle.gcm_spec.specs.Gcm.{hash_input}

-- The number of two halves given as bytes.
number_two : (p q : ℕ) → p < 2 ^ 64 → q < 2 ^ 64 → number (big_endian 8 p ++ big_endian 8 q) ≡ p * 2 ^ 64 + q
number_two p q hp hq =
    ap number (sym (big_endian-++ 8 8 p q hq))
    ∙ number-big_endian 0 16 (p * 2 ^ 64 + q)
    ∙ zero-add ((p * 2 ^ 64 + q) % 256 ^ 16)
    ∙ mod-eq_of_lt (digits_lt hp hq)

-- The last block, of the two lengths.
hash_from_lengths : (h y p q : ℕ) → p < 2 ^ 64 → q < 2 ^ 64 → hash_from h y (big_endian 8 p ++ big_endian 8 q) ≡ product (bit_xor y (p * 2 ^ 64 + q)) h
unfolding hash_from hash_blocks
hash_from_lengths h y p q hp hq =
    let z : List ℕ = big_endian 8 p ++ big_endian 8 q in
    let l : length z ≡ 16 = length-append (big_endian 8 p) (big_endian 8 q) ∙ ap₂ (λ (a b : ℕ). a + b) (big_endian-length 8 p) (big_endian-length 8 q) in
    ap (λ (k : ℕ). hash_blocks h (k / 16) y z) l
    ∙ ap (λ (x : List ℕ). product (bit_xor y (number x)) h) (take_all 16 z (omega arith))
    ∙ ap (λ (x : ℕ). product (bit_xor y x) h) (number_two p q hp hq)

pub ghash_parts : (h : ℕ) (aad c : List ℕ) {a y s : ℕ} → length aad ≤ 4096 → length c ≤ 4096
    → a ≡ hash_from h 0 (pad aad) → y ≡ hash_from h a (pad c) → s ≡ product (bit_xor y (length aad * 8 * 2 ^ 64 + length c * 8)) h
    → s ≡ ghash h (hash_input aad c)
unfolding ghash hash_input
ghash_parts h aad c ha hc ea ey es =
    let z : List ℕ = big_endian 8 (length aad * 8) ++ big_endian 8 (length c * 8) in
    es
    ∙ sym (hash_from_lengths h _ (length aad * 8) (length c * 8) (omega arith) (omega arith))
    ∙ ap (λ (t : ℕ). hash_from h t z) (ey ∙ ap (λ (t : ℕ). hash_from h t (pad c)) ea)
    ∙ sym (hash_from-++ h (hash_from h 0 (pad aad)) _ (pad c) z (pad-length c))
    ∙ sym (hash_from-++ h 0 _ (pad aad) (pad c ++ z) (pad-length aad))
