-- The state of a block from the four rows that hold it, and the steps of a round on it, each by what it is on a byte of a row.
-- Assumes nothing.
use mathlib.Core.Path.{◌≡◌, refl, ap, ◌∙◌}
use mathlib.Core.List.{List, [], ◌∷◌}
use Prim.Native.Nat.{ℕ, ◌+◌, ◌*◌, ◌%◌, ◌<◌}
use native.Mathlib.Omega.{arith}
use Rattle.rounds.specs.State.{four, sub_bytes, shift_rows, mix_columns, add_round_key}
use Rattle.rounds.proofs.Words.{four_equal}
use Rattle.circuit.specs.Bits.{bit_of, bits_of, byte_of}
use Rattle.circuit.specs.Circuit.{sub_words}
use Rattle.circuit.proofs.Laws.{eight, sub_byte}
use Rattle.swaps.specs.Swaps.{right}
use Rattle.swaps.proofs.Laws as swaps
use Rattle.packing.specs.Planes.{row_from}
use Rattle.packing.proofs.Laws.{four_of}
use Rattle.mix.specs.Mix.{sum_words, mix_words}
use Rattle.mix.proofs.Laws.{sum_byte, mixed_byte}
use Rattle.planes.specs.Rounds.{right_row, every_block, every_row}
use Rattle.planes.proofs.Every.{every_bit}

-- The byte of column c of block n in the row a.
abbrev pub byte_in : List ℕ → ℕ → ℕ → ℕ
byte_in a n c = byte_of (bits_of (16 * c + n) a)

-- The state of block n in four rows, the last row first.
abbrev pub state_rows : (a b c d : List ℕ) → ℕ → List (List ℕ)
state_rows a b c d n = four (λ i. byte_in d n i ∷ byte_in c n i ∷ byte_in b n i ∷ byte_in a n i ∷ [])

-- A byte of a row that was turned right by 16 × r places is that of the column r after it.
right_byte : (r : ℕ) (a : List ℕ) (n c : ℕ) → r < 4 → n < 16 → c < 4
    → byte_in (right_row (16 * r) a) n c ≡ byte_in (row_from a 0) n ((c + r) % 4)
right_byte r a n c h l p =
    let e : (16 * c + n + 16 * r) % 64 ≡ 16 * ((c + r) % 4) + n = omega arith in
    let t : (x : ℕ) → bit_of (16 * c + n) (right (16 * r) x) ≡ bit_of (16 * ((c + r) % 4) + n) x =
    λ x. (swaps.laws).turned (16 * r) x (16 * c + n) (omega arith) (omega arith) ∙ ap (λ (i : ℕ). bit_of i x) e
    in
    ap byte_of (eight (t _) (t _) (t _) (t _) (t _) (t _) (t _) (t _))

-- A byte of a row that has block m in every block is that of block m.
every_byte : (a : List ℕ) (m n c : ℕ) → m < 16 → n < 16 → c < 4 → byte_in (every_row m a) n c ≡ byte_in (row_from a 0) m c
every_byte a m n c h l p =
    let t : (x : ℕ) → bit_of (16 * c + n) (every_block m x) ≡ bit_of (16 * c + m) x = λ x. every_bit m n c x h l p in
    ap byte_of (eight (t _) (t _) (t _) (t _) (t _) (t _) (t _) (t _))

module _ (a b c d : List ℕ) (n : ℕ) where
  -- SUBBYTES
  pub sub_rows_lem : n < 16 → state_rows (sub_words a) (sub_words b) (sub_words c) (sub_words d) n ≡ sub_bytes (state_rows a b c d n)
  sub_rows_lem l =
      four_of _ _
      (λ i p.
      let h : 16 * i + n < 64 = omega arith in
      four_equal (sub_byte d _ h) (sub_byte c _ h) (sub_byte b _ h) (sub_byte a _ h))

  -- ADDROUNDKEY
  pub sum_rows : (a' b' c' d' : List ℕ)
      → state_rows (sum_words a a') (sum_words b b') (sum_words c c') (sum_words d d') n
      ≡ add_round_key (state_rows a b c d n) (state_rows a' b' c' d' n)
  sum_rows a' b' c' d' =
      four_of _ _
      (λ i p.
      let j = 16 * i + n in
      four_equal (sum_byte d d' j) (sum_byte c c' j) (sum_byte b b' j) (sum_byte a a' j))

  -- MIXCOLUMNS
  pub mix_rows :
      state_rows (mix_words a d c b) (mix_words b a d c) (mix_words c b a d) (mix_words d c b a) n
      ≡ mix_columns (state_rows a b c d n)
  mix_rows =
      four_of _ _
      (λ i p.
      let j = 16 * i + n in
      four_equal (mixed_byte d c b a j) (mixed_byte c b a d j) (mixed_byte b a d c j) (mixed_byte a d c b j))

  -- SHIFTROWS
  pub right_rows : n < 16
      → state_rows (right_row 48 a) (right_row 32 b) (right_row 16 c) (row_from d 0) n
      ≡ shift_rows (state_rows (row_from a 0) (row_from b 0) (row_from c 0) (row_from d 0) n)
  right_rows l =
      four_of _
      (λ i. byte_in (row_from d 0) n i ∷ byte_in (row_from c 0) n ((i + 1) % 4) ∷ byte_in (row_from b 0) n ((i + 2) % 4)
      ∷ byte_in (row_from a 0) n ((i + 3) % 4) ∷ [])
      (λ i p.
      four_equal refl (right_byte 1 c n i (omega arith) l p) (right_byte 2 b n i (omega arith) l p)
      (right_byte 3 a n i (omega arith) l p))

  -- Block m of each row, in every block.
  pub every_rows : (m : ℕ) → m < 16 → n < 16
      → state_rows (every_row m a) (every_row m b) (every_row m c) (every_row m d) n
      ≡ state_rows (row_from a 0) (row_from b 0) (row_from c 0) (row_from d 0) m
  every_rows m h l =
      four_of _ _
      (λ i p.
      four_equal (every_byte d m n i h l p) (every_byte c m n i h l p) (every_byte b m n i h l p) (every_byte a m n i h l p))
