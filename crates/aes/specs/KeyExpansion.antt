-- FIPS 197, section 5.2: the key expansion of AES-256 (Nk = 8, 60 words). The schedule is kept flat: word i is its bytes
-- 4i to 4i + 3. Assumes nothing.
use Rattle.std.specs.Prelude.{ℕ, zero, suc, ◌+◌, ◌*◌, ◌-◌, ◌/◌, ◌%◌, List, [], ◌∷◌, ◌++◌, Bool, true, false, eqb, get_or}
use Rattle.rounds.specs.State.{four, sub_word, add_word}

-- w[i], word i of a schedule.
abbrev pub word_at : List ℕ → ℕ → List ℕ
word_at w i = get_or w (4 * i) 0 ∷ get_or w (4 * i + 1) 0 ∷ get_or w (4 * i + 2) 0 ∷ get_or w (4 * i + 3) 0 ∷ []

-- ROTWORD: the bytes of a word moved by one place.
abbrev pub rot_word : List ℕ → List ℕ
rot_word a = four (λ r. get_or a ((r + 1) % 4) 0)

-- Rcon[j] of table 5, j from 1 to 7.
abbrev pub rcon : ℕ → List ℕ
rcon j = get_or (0x00 ∷ 0x01 ∷ 0x02 ∷ 0x04 ∷ 0x08 ∷ 0x10 ∷ 0x20 ∷ 0x40 ∷ []) j 0 ∷ 0 ∷ 0 ∷ 0 ∷ []

-- The first word where the test is true, else the second.
abbrev pub if_word : Bool → List ℕ → List ℕ → List ℕ
if_word true a b = a
if_word false a b = b

-- What Algorithm 2 adds to w[i - 8], from temp = w[i - 1]: changed where i is a multiple of 8, or 4 more than one.
abbrev pub changed_word : ℕ → List ℕ → List ℕ
changed_word i temp =
    if_word (eqb (i % 8) 0) (add_word (sub_word (rot_word temp)) (rcon (i / 8))) (if_word (eqb (i % 8) 4) (sub_word temp) temp)

-- w[i], from the words before it (Algorithm 2).
unfoldable pub next_word : List ℕ → ℕ → List ℕ
next_word w i = add_word (word_at w (i - 8)) (changed_word i (word_at w (i - 1)))

-- The first 8 + n words: the key, then each word from those before it (Algorithm 2).
unfoldable pub schedule : List ℕ → ℕ → List ℕ
schedule key zero = key
schedule key (suc n) = schedule key n ++ next_word (schedule key n) (8 + n)

-- KEYEXPANSION of a key of 32 bytes: all 60 words.
unfoldable pub key_expansion : List ℕ → List ℕ
key_expansion key = schedule key 52
