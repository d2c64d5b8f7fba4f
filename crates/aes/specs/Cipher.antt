-- FIPS 197, section 5.1: the cipher of AES-256 (Nr = 14), from a schedule and a block of 16 bytes. Assumes nothing.
use Rattle.std.specs.Prelude.{ℕ, zero, suc, ◌+◌, ◌*◌, List, [], ◌∷◌}
use Rattle.rounds.specs.State.{state_of, bytes_of, add_round_key}
use Rattle.rounds.specs.Round.{round_of, last_round}
use Rattle.aes.specs.KeyExpansion.{word_at}

-- Round key n: the words 4n to 4n + 3 of a schedule.
abbrev pub round_key : List ℕ → ℕ → List (List ℕ)
round_key w n = word_at w (4 * n) ∷ word_at w (4 * n + 1) ∷ word_at w (4 * n + 2) ∷ word_at w (4 * n + 3) ∷ []

-- The state s after the rounds 1 to n.
unfoldable pub rounds : List ℕ → List (List ℕ) → ℕ → List (List ℕ)
rounds w s zero = s
rounds w s (suc n) = round_of (rounds w s n) (round_key w (suc n))

-- CIPHER (Algorithm 1): the state that the block becomes under a schedule.
unfoldable pub cipher_state : List ℕ → List (List ℕ) → List (List ℕ)
cipher_state w s = last_round (rounds w (add_round_key s (round_key w 0)) 13) (round_key w 14)

-- CIPHER of 16 bytes: 16 bytes.
unfoldable pub cipher : List ℕ → List ℕ → List ℕ
cipher w block = bytes_of (cipher_state w (state_of block))
