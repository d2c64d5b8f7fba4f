-- The round keys as blocks of a lane. Assumes nothing.
use Rattle.std.specs.Prelude.{ℕ, ◌+◌, ◌*◌, ◌^◌, ◌≡◌, List, get_or}

-- Round key n, the words 4n to 4n + 3 of w, stands as block n in the first lane of s.
pub record KeyBlock (w s : List ℕ) (n : ℕ) : Type 0 where
  pub first : get_or s (16 * n) 0 ≡ get_or w (4 * n) 0 + get_or w (4 * n + 2) 0 * 2 ^ 32
  pub second : get_or s (16 * n + 256) 0 ≡ get_or w (4 * n + 1) 0 + get_or w (4 * n + 3) 0 * 2 ^ 32
