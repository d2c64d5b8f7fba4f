-- Up to 16 lanes of 32 words in one list of 512: word i of lane j stands at 16 × i + j. A lane is four rows of eight words. Assumes nothing.
use Rattle.std.specs.Prelude.{ℕ, zero, suc, ◌+◌, ◌*◌, List, [], ◌∷◌, ◌++◌, get_or, set}
use Rattle.circuit.specs.Circuit.{sub_words}
use Rattle.packing.specs.Planes.{row_from}

-- The eight words of a row of a lane, from place at on.
abbrev pub row_at : List ℕ → ℕ → List ℕ
row_at s at =
    get_or s at 0 ∷ get_or s (at + 16) 0 ∷ get_or s (at + 32) 0 ∷ get_or s (at + 48) 0 ∷ get_or s (at + 64) 0 ∷ get_or s (at + 80) 0
    ∷ get_or s (at + 96) 0 ∷ get_or s (at + 112) 0 ∷ []

-- The 32 words of lane j.
unfoldable pub lane_at : List ℕ → ℕ → List ℕ
lane_at s j = row_at s j ++ (row_at s (j + 128) ++ (row_at s (j + 256) ++ row_at s (j + 384)))

-- Eight words put into a row.
unfoldable pub put_row : List ℕ → ℕ → List ℕ → List ℕ
put_row s at x =
    set (set (set (set (set (set (set (set s at (get_or x 0 0)) (at + 16) (get_or x 1 0)) (at + 32) (get_or x 2 0)) (at + 48) (get_or x 3 0))
    (at + 64) (get_or x 4 0)) (at + 80) (get_or x 5 0)) (at + 96) (get_or x 6 0)) (at + 112) (get_or x 7 0)

-- The 32 words x put into lane j.
unfoldable pub put_lane : List ℕ → ℕ → List ℕ → List ℕ
put_lane s j x =
    put_row (put_row (put_row (put_row s j (row_from x 0)) (j + 128) (row_from x 8)) (j + 256) (row_from x 16)) (j + 384) (row_from x 24)

-- The rows from place base on of the lanes 0 to n − 1 changed by f, one after the other.
unfoldable pub each_row : (List ℕ → List ℕ) → ℕ → ℕ → List ℕ → List ℕ
each_row f base zero s = s
each_row f base (suc j) s = put_row (each_row f base j s) (base + j) (f (row_at (each_row f base j s) (base + j)))

-- SUBBYTES of the first r rows of n lanes.
unfoldable pub sub_rows : ℕ → ℕ → List ℕ → List ℕ
sub_rows zero n s = s
sub_rows (suc r) n s = each_row sub_words (128 * r) n (sub_rows r n s)

-- SUBBYTES of the four rows of a lane.
unfoldable pub sub_lane : List ℕ → List ℕ
sub_lane x = sub_words (row_from x 0) ++ (sub_words (row_from x 8) ++ (sub_words (row_from x 16) ++ sub_words (row_from x 24)))

-- The lanes 0 to n − 1 changed by f, one after the other.
unfoldable pub each_lane : (List ℕ → List ℕ) → ℕ → List ℕ → List ℕ
each_lane f zero s = s
each_lane f (suc j) s = put_lane (each_lane f j s) j (f (lane_at (each_lane f j s) j))
