-- CIPHER of n lanes step by step, each step of all lanes before the next, as the code does it. Assumes nothing.
use Rattle.std.specs.Prelude.{ℕ, zero, suc, List}
use Rattle.turn.specs.Turn.{turned_of}
use Rattle.lanes.specs.Lanes.{sub_rows, each_lane}
use Rattle.planes.specs.Rounds.{added_lane, mixed_lane, moved_lane, key_lane}

-- The lanes after the rounds 1 to r, under the round keys in the lane k.
unfoldable pub rounds_lanes : List ℕ → ℕ → List ℕ → ℕ → List ℕ
rounds_lanes k n s zero = s
rounds_lanes k n s (suc r) = each_lane (mixed_lane (key_lane k (suc r))) n (sub_rows 4 n (rounds_lanes k n s r))

-- CIPHER of the blocks of n lanes, under the round keys in the lane k.
unfoldable pub encrypt_lanes : List ℕ → ℕ → List ℕ → List ℕ
encrypt_lanes k n s =
    each_lane turned_of n
    (each_lane (moved_lane (key_lane k 14)) n
    (sub_rows 4 n (rounds_lanes k n (each_lane (added_lane (key_lane k 0)) n (each_lane turned_of n s)) 13)))
