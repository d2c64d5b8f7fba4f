-- The cipher of AES-256 (FIPS 197, section 5.1) on a lane: 16 blocks in 32 words, eight bit planes for each row of the state, the last
-- row first. Assumes nothing.
use Rattle.std.specs.Prelude.{ℕ, zero, suc, ◌*◌, ◌/◌, ◌^◌, ◌<◌, ◌≡◌, List, [], ◌∷◌, ◌++◌, get_or}
use Rattle.std.specs.Int.Bits.{bit_and}
use Rattle.aes.specs.Cipher.{round_key}
use Rattle.swaps.specs.Swaps.{right}
use Rattle.turn.specs.Turn.{turned_of}
use Rattle.packing.specs.Planes.{row_from, state_at}
use Rattle.mix.specs.Mix.{sum_words, mix_words}
use Rattle.lanes.specs.Lanes.{sub_lane}

-- The planes of a row turned right by k places: SHIFTROWS of row k / 16.
abbrev pub right_row : ℕ → List ℕ → List ℕ
right_row k a =
    right k (get_or a 0 0) ∷ right k (get_or a 1 0) ∷ right k (get_or a 2 0) ∷ right k (get_or a 3 0) ∷ right k (get_or a 4 0)
    ∷ right k (get_or a 5 0) ∷ right k (get_or a 6 0) ∷ right k (get_or a 7 0) ∷ []

-- ADDROUNDKEY of four rows, with the lane k.
unfoldable pub added_rows : (a b c d k : List ℕ) → List ℕ
added_rows a b c d k =
    sum_words a (row_from k 0) ++ (sum_words b (row_from k 8) ++ (sum_words c (row_from k 16) ++ sum_words d (row_from k 24)))

-- The first ADDROUNDKEY of a lane.
unfoldable pub added_lane : List ℕ → List ℕ → List ℕ
added_lane k x = added_rows (row_from x 0) (row_from x 8) (row_from x 16) (row_from x 24) k

-- MIXCOLUMNS and ADDROUNDKEY of four rows, the last row first.
unfoldable pub mixed_rows : (a b c d k : List ℕ) → List ℕ
mixed_rows a b c d k = added_rows (mix_words a d c b) (mix_words b a d c) (mix_words c b a d) (mix_words d c b a) k

-- SHIFTROWS, MIXCOLUMNS and ADDROUNDKEY of a lane.
unfoldable pub mixed_lane : List ℕ → List ℕ → List ℕ
mixed_lane k x = mixed_rows (right_row 48 (row_from x 0)) (right_row 32 (row_from x 8)) (right_row 16 (row_from x 16)) (row_from x 24) k

-- SHIFTROWS and the last ADDROUNDKEY of a lane.
unfoldable pub moved_lane : List ℕ → List ℕ → List ℕ
moved_lane k x = added_rows (right_row 48 (row_from x 0)) (right_row 32 (row_from x 8)) (right_row 16 (row_from x 16)) (row_from x 24) k

-- The bits of block n in a word, in each of the 16 blocks.
unfoldable pub every_block : ℕ → ℕ → ℕ
every_block n v = bit_and (v / 2 ^ n) 0x0001000100010001 * 0xffff

-- Block n of a row, in each of the 16 blocks.
abbrev pub every_row : ℕ → List ℕ → List ℕ
every_row n a =
    every_block n (get_or a 0 0) ∷ every_block n (get_or a 1 0) ∷ every_block n (get_or a 2 0) ∷ every_block n (get_or a 3 0)
    ∷ every_block n (get_or a 4 0) ∷ every_block n (get_or a 5 0) ∷ every_block n (get_or a 6 0) ∷ every_block n (get_or a 7 0) ∷ []

-- Round key n, which is block n of the lane k, in each of the 16 blocks.
unfoldable pub key_lane : List ℕ → ℕ → List ℕ
key_lane k n = every_row n (row_from k 0) ++ (every_row n (row_from k 8) ++ (every_row n (row_from k 16) ++ every_row n (row_from k 24)))

-- The lane x after the rounds 1 to n, under the round keys in the lane k.
unfoldable pub rounds_lane : List ℕ → List ℕ → ℕ → List ℕ
rounds_lane k x zero = x
rounds_lane k x (suc n) = mixed_lane (key_lane k (suc n)) (sub_lane (rounds_lane k x n))

-- CIPHER of the 16 blocks of a lane, from words of blocks to words of blocks, under the round keys in the lane k.
unfoldable pub encrypt_lane : List ℕ → List ℕ → List ℕ
encrypt_lane k x =
    turned_of (moved_lane (key_lane k 14) (sub_lane (rounds_lane k (added_lane (key_lane k 0) (turned_of x)) 13)))

-- The lane k has the round keys of the schedule w on bit planes: block n is round key n.
pub record KeyPlanes (w k : List ℕ) : Type 0 where
  pub at : (n : ℕ) → n < 15 → state_at k n ≡ round_key w n
