-- The steps of the cipher on a lane are those on the state of each of its blocks, and so the cipher on a lane is that of each block.
-- Assumes nothing.
use mathlib.Core.Path.{◌≡◌, refl, sym, ap, ap₂, ◌∙◌}
use mathlib.Core.List.{List, ◌++◌}
use Prim.Native.Nat.{ℕ, zero, suc, ◌+◌, ◌<◌, ◌≤◌}
use native.Mathlib.Omega.{arith}
use lib.ListN.{length, get_or}
use Rattle.rounds.specs.State.{bytes_of, state_of, sub_bytes, shift_rows, mix_columns, add_round_key}
use Rattle.rounds.specs.Round.{round_of, last_round}
use Rattle.aes.specs.Cipher.{round_key, rounds, cipher_state, cipher}
use Rattle.turn.specs.Turn.{turned_of}
use Rattle.turn.proofs.Laws as turn
use Rattle.packing.specs.Planes.{row_from, state_at, block_bytes}
use Rattle.packing.proofs.Laws as packing
use Rattle.mix.specs.Mix.{sum_words, mix_words}
use Rattle.lanes.specs.Lanes.{sub_lane}
use Rattle.lanes.proofs.Laws.{sub_eight}
use Rattle.planes.specs.Rounds.{right_row, added_rows, added_lane, mixed_rows, mixed_lane, moved_lane, every_row, key_lane}
use Rattle.planes.specs.Rounds.{rounds_lane, encrypt_lane, KeyPlanes}
use Rattle.planes.specs.Theorems.{PlaneLaws}
use Rattle.planes.proofs.Same.{same_rows}
use Rattle.planes.proofs.Rows.{state_rows, sub_rows_lem, sum_rows, mix_rows, right_rows, every_rows}

-- ---- a lane and its rows

-- The state in a lane is that in its rows.
state_rows_lem : (x : List ℕ) (n : ℕ) → state_at x n ≡ state_rows (row_from x 0) (row_from x 8) (row_from x 16) (row_from x 24) n
unfolding state_at
state_rows_lem x n = refl

-- The state in the lane of four rows of eight words is that in the rows.
joined_rows : {a b c d : List ℕ} (n : ℕ) → row_from a 0 ≡ a → row_from b 0 ≡ b → row_from c 0 ≡ c → row_from d 0 ≡ d
    → state_at (a ++ (b ++ (c ++ d))) n ≡ state_rows a b c d n
unfolding state_at
joined_rows n p q r s =
    same_rows (λ a b c d. state_at (a ++ (b ++ (c ++ d))) n) (sym p) (sym q) (sym r) (sym s)
    ∙ same_rows (λ a b c d. state_rows a b c d n) p q r s

-- A sum of rows is eight words.
sum_eight : (a b : List ℕ) → row_from (sum_words a b) 0 ≡ sum_words a b
unfolding sum_words
sum_eight a b = refl

-- ---- the steps of a round

-- SUBBYTES of a lane is that of the state of each block.
state_sub : (x : List ℕ) (n : ℕ) → n < 16 → state_at (sub_lane x) n ≡ sub_bytes (state_at x n)
unfolding sub_lane
state_sub x n l =
    joined_rows n (sub_eight _) (sub_eight _) (sub_eight _) (sub_eight _)
    ∙ sub_rows_lem (row_from x 0) (row_from x 8) (row_from x 16) (row_from x 24) n l
    ∙ ap sub_bytes (sym (state_rows_lem x n))

-- The sum of four rows and the words of a round key is ADDROUNDKEY.
added_rows_lem : (a b c d k : List ℕ) (n : ℕ)
    → state_at (added_rows a b c d k) n ≡ add_round_key (state_rows a b c d n) (state_at k n)
unfolding added_rows
added_rows_lem a b c d k n =
    joined_rows n (sum_eight _ _) (sum_eight _ _) (sum_eight _ _) (sum_eight _ _)
    ∙ sum_rows a b c d n (row_from k 0) (row_from k 8) (row_from k 16) (row_from k 24)
    ∙ ap (add_round_key (state_rows a b c d n)) (sym (state_rows_lem k n))

-- The first step.
state_added : (k x : List ℕ) (n : ℕ) → state_at (added_lane k x) n ≡ add_round_key (state_at x n) (state_at k n)
unfolding added_lane
state_added k x n =
    added_rows_lem (row_from x 0) (row_from x 8) (row_from x 16) (row_from x 24) k n
    ∙ ap (λ (s : List (List ℕ)). add_round_key s (state_at k n)) (sym (state_rows_lem x n))

-- The rows of a lane after SHIFTROWS.
shifted : (x : List ℕ) (n : ℕ) → n < 16
    → state_rows (right_row 48 (row_from x 0)) (right_row 32 (row_from x 8)) (right_row 16 (row_from x 16)) (row_from x 24) n
    ≡ shift_rows (state_at x n)
shifted x n l = right_rows (row_from x 0) (row_from x 8) (row_from x 16) (row_from x 24) n l ∙ ap shift_rows (sym (state_rows_lem x n))

-- The steps of a round after SUBBYTES.
state_mixed : (k x : List ℕ) (n : ℕ) → n < 16
    → state_at (mixed_lane k x) n ≡ add_round_key (mix_columns (shift_rows (state_at x n))) (state_at k n)
unfolding mixed_lane mixed_rows
state_mixed k x n l =
    let a = right_row 48 (row_from x 0) in
    let b = right_row 32 (row_from x 8) in
    let c = right_row 16 (row_from x 16) in
    let d = row_from x 24 in
    added_rows_lem (mix_words a d c b) (mix_words b a d c) (mix_words c b a d) (mix_words d c b a) k n
    ∙ ap (λ (s : List (List ℕ)). add_round_key s (state_at k n)) (mix_rows a b c d n ∙ ap mix_columns (shifted x n l))

-- The steps of the last round after SUBBYTES.
state_moved : (k x : List ℕ) (n : ℕ) → n < 16
    → state_at (moved_lane k x) n ≡ add_round_key (shift_rows (state_at x n)) (state_at k n)
unfolding moved_lane
state_moved k x n l =
    added_rows_lem (right_row 48 (row_from x 0)) (right_row 32 (row_from x 8)) (right_row 16 (row_from x 16)) (row_from x 24) k n
    ∙ ap (λ (s : List (List ℕ)). add_round_key s (state_at k n)) (shifted x n l)

-- A lane is 32 words after each step.
rows_length : (a b c d k : List ℕ) → length (added_rows a b c d k) ≡ 32
unfolding added_rows sum_words
rows_length a b c d k = refl

pub added_length : (k x : List ℕ) → length (added_lane k x) ≡ 32
unfolding added_lane
added_length k x = rows_length _ _ _ _ k

pub mixed_length : (k x : List ℕ) → length (mixed_lane k x) ≡ 32
unfolding mixed_lane mixed_rows
mixed_length k x = rows_length _ _ _ _ k

pub moved_length : (k x : List ℕ) → length (moved_lane k x) ≡ 32
unfolding moved_lane
moved_length k x = rows_length _ _ _ _ k

-- ---- the cipher

module _ (w k : List ℕ) (b : ℕ) (keys : KeyPlanes w k) (l : b < 16) where
  -- A round key, in each block.
  state_key : (n : ℕ) → n < 15 → state_at (key_lane k n) b ≡ round_key w n
  unfolding key_lane
  state_key n h =
      let e = every_row n in
      joined_rows {a = e (row_from k 0)} {b = e (row_from k 8)} {c = e (row_from k 16)} {d = e (row_from k 24)} b refl refl refl refl
      ∙ every_rows (row_from k 0) (row_from k 8) (row_from k 16) (row_from k 24) b n (omega arith) l
      ∙ sym (state_rows_lem k n) ∙ keys.at n h

  -- The rounds 1 to n.
  state_rounds : (x : List ℕ) (n : ℕ) → n ≤ 13 → state_at (rounds_lane k x n) b ≡ rounds w (state_at x b) n
  unfolding rounds_lane rounds round_of
  state_rounds x zero h = refl
  state_rounds x (suc n) h =
      state_mixed (key_lane k (suc n)) (sub_lane (rounds_lane k x n)) b l
      ∙ ap₂ (λ (s t : List (List ℕ)). add_round_key (mix_columns (shift_rows s)) t)
      (state_sub (rounds_lane k x n) b l ∙ ap sub_bytes (state_rounds x n (omega arith)))
      (state_key (suc n) (omega arith))

  -- The first step, the rounds and the last round, between two transpositions.
  encrypted : (x : List ℕ) → length x ≡ 32
      → block_bytes (get_or (encrypt_lane k x) b 0) (get_or (encrypt_lane k x) (16 + b) 0)
      ≡ cipher w (block_bytes (get_or x b 0) (get_or x (16 + b) 0))
  unfolding encrypt_lane cipher cipher_state last_round
  encrypted x e =
      let y = added_lane (key_lane k 0) (turned_of x) in
      let z = rounds_lane k y 13 in
      let first : state_at y b ≡ add_round_key (state_of (block_bytes (get_or x b 0) (get_or x (16 + b) 0))) (round_key w 0) =
      state_added (key_lane k 0) (turned_of x) b ∙ ap₂ add_round_key ((packing.laws).into x b e l) (state_key 0 (omega arith))
      in
      (packing.laws).out (moved_lane (key_lane k 14) (sub_lane z)) b (moved_length (key_lane k 14) (sub_lane z)) l
      ∙ ap bytes_of
      (state_moved (key_lane k 14) (sub_lane z) b l
      ∙ ap₂ (λ (s t : List (List ℕ)). add_round_key (shift_rows s) t)
      (state_sub z b l ∙ ap sub_bytes (state_rounds y 13 (omega arith) ∙ ap (λ (s : List (List ℕ)). rounds w s 13) first))
      (state_key 14 (omega arith)))

encrypt_length : (k x : List ℕ) → length (encrypt_lane k x) ≡ 32
unfolding encrypt_lane
encrypt_length k x = (turn.laws).turned_length _ (moved_length (key_lane k 14) _)

pub laws : PlaneLaws
laws = record { encrypted = λ w k x b keys e l. encrypted w k b keys l x e; encrypt_length = encrypt_length }
