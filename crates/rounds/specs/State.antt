-- FIPS 197, sections 3.4 and 5.1: the state, four columns of four bytes, and the steps of a round. Assumes nothing.
use Rattle.std.specs.Prelude.{ℕ, ◌+◌, ◌*◌, ◌/◌, ◌%◌, List, [], ◌∷◌, get_or}
use Rattle.std.specs.Int.Bits.{bit_xor}
use Rattle.field.specs.Field.{times}
use Rattle.field.specs.Sbox.{sbox}

-- The list of f 0 to f 3: a word from its bytes, a state from its columns.
abbrev pub four : {A : Type 0} → (ℕ → A) → List A
four f = f 0 ∷ f 1 ∷ f 2 ∷ f 3 ∷ []

-- Column c of a state.
abbrev pub column : List (List ℕ) → ℕ → List ℕ
column s c = get_or s c []

-- The state of 16 bytes: row r of column c is byte r + 4c (3.4).
abbrev pub state_of : List ℕ → List (List ℕ)
state_of b = four (λ c. four (λ r. get_or b (r + 4 * c) 0))

-- Byte i of the 16 bytes of a state (3.4).
abbrev pub state_byte : List (List ℕ) → ℕ → ℕ
state_byte s i = get_or (column s (i / 4)) (i % 4) 0

-- The 16 bytes of a state (3.4).
abbrev pub bytes_of : List (List ℕ) → List ℕ
bytes_of s =
    state_byte s 0 ∷ state_byte s 1 ∷ state_byte s 2 ∷ state_byte s 3 ∷ state_byte s 4 ∷ state_byte s 5 ∷ state_byte s 6 ∷ state_byte s 7
    ∷ state_byte s 8 ∷ state_byte s 9 ∷ state_byte s 10 ∷ state_byte s 11 ∷ state_byte s 12 ∷ state_byte s 13 ∷ state_byte s 14 ∷ state_byte s 15
    ∷ []

-- SUBWORD (5.2), which is also SUBBYTES of one column: the S-box at each byte.
abbrev pub sub_word : List ℕ → List ℕ
sub_word a = four (λ r. sbox (get_or a r 0))

-- SUBBYTES (5.1.1).
abbrev pub sub_bytes : List (List ℕ) → List (List ℕ)
sub_bytes s = four (λ c. sub_word (column s c))

-- SHIFTROWS (5.1.2): row r of column c comes from column c + r.
abbrev pub shift_rows : List (List ℕ) → List (List ℕ)
shift_rows s = four (λ c. four (λ r. get_or (column s ((c + r) % 4)) r 0))

-- A byte of MIXCOLUMNS (5.1.3) from the bytes of its column, its own first: 02 • a + 03 • b + c + d.
unfoldable pub mix_byte : ℕ → ℕ → ℕ → ℕ → ℕ
mix_byte a b c d = bit_xor (bit_xor (bit_xor (times 2 a) (times 3 b)) c) d

-- MIXCOLUMNS (5.1.3) of one column.
abbrev pub mix_column : List ℕ → List ℕ
mix_column a = four (λ r. mix_byte (get_or a r 0) (get_or a ((r + 1) % 4) 0) (get_or a ((r + 2) % 4) 0) (get_or a ((r + 3) % 4) 0))

-- MIXCOLUMNS (5.1.3).
abbrev pub mix_columns : List (List ℕ) → List (List ℕ)
mix_columns s = four (λ c. mix_column (column s c))

-- The sum of two words.
abbrev pub add_word : List ℕ → List ℕ → List ℕ
add_word a b = four (λ r. bit_xor (get_or a r 0) (get_or b r 0))

-- ADDROUNDKEY (5.1.4): column by column.
abbrev pub add_round_key : List (List ℕ) → List (List ℕ) → List (List ℕ)
add_round_key s k = four (λ c. add_word (column s c) (column k c))
