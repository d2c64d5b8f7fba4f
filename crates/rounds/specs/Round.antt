-- FIPS 197, section 5.1: a round of the cipher, its four steps one after the other. Assumes nothing.
use Rattle.std.specs.Prelude.{ℕ, List}
use Rattle.rounds.specs.State.{sub_bytes, shift_rows, mix_columns, add_round_key}

-- A round of Algorithm 1, on the state, with its round key.
unfoldable pub round_of : List (List ℕ) → List (List ℕ) → List (List ℕ)
round_of s k = add_round_key (mix_columns (shift_rows (sub_bytes s))) k

-- The last round, which has no MIXCOLUMNS.
unfoldable pub last_round : List (List ℕ) → List (List ℕ) → List (List ℕ)
last_round s k = add_round_key (shift_rows (sub_bytes s)) k
