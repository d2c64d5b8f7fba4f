-- The schedule's length, and how the key expansion grows it in the first bytes of an array. Assumes nothing.
use mathlib.Core.Path.{◌≡◌, ◌∙◌, ap, ap₂, sym}
use mathlib.Core.List.{List, [], ◌∷◌, ◌++◌}
use Prim.Native.Nat.{ℕ, zero, suc, ◌+◌, ◌*◌, ◌-◌, ◌≤◌, ◌<◌}
use native.Mathlib.Omega.{arith}
use lib.ListN.{length, get_or, take, drop, set, length-append, length-drop}
use lib.Seq.{take_all, take_at, get_or-take, length-take-le, sets-eq}
use Rattle.rounds.specs.State.{add_word}
use Rattle.aes.specs.KeyExpansion.{word_at, changed_word, next_word, schedule, key_expansion}
use Rattle.rounds.proofs.Words.{four_equal}

pub schedule_length : (key : List ℕ) → length key ≡ 32 → (n : ℕ) → length (schedule key n) ≡ 32 + 4 * n
unfolding schedule next_word
schedule_length key h zero = h
schedule_length key h (suc n) =
    omega (arith, length-append (schedule key n) (next_word (schedule key n) (8 + n)), schedule_length key h n)

-- Word j of the first 4i bytes is word j of them all, where j is below i.
word-take : (w : List ℕ) (i j : ℕ) → j < i → word_at w j ≡ word_at (take (4 * i) w) j
word-take w i j h =
    sym (four_equal (get_or-take (4 * i) w (4 * j) 0 (omega arith)) (get_or-take (4 * i) w (4 * j + 1) 0 (omega arith))
    (get_or-take (4 * i) w (4 * j + 2) 0 (omega arith))
    (get_or-take (4 * i) w (4 * j + 3) 0 (omega arith)))

-- Word i is made of the words before it.
next-take : (w : List ℕ) (i : ℕ) → 8 ≤ i → next_word w i ≡ next_word (take (4 * i) w) i
unfolding next_word
next-take w i h =
    ap₂ (λ (a b : List ℕ). add_word a (changed_word i b)) (word-take w i (i - 8) (omega arith)) (word-take w i (i - 1) (omega arith))

-- Four stores append a word to the bytes before them.
take_stored : (w : List ℕ) (j a b c d : ℕ) → j + 4 ≤ length w
    → take (j + 4) (set (set (set (set w j a) (j + 1) b) (j + 2) c) (j + 3) d) ≡ take j w ++ (a ∷ b ∷ c ∷ d ∷ [])
take_stored w j a b c d h =
    let e₁ : j + 1 ≡ suc j = omega arith in
    let e₂ : j + 2 ≡ suc (suc j) = omega arith in
    let e₃ : j + 3 ≡ suc (suc (suc j)) = omega arith in
    let word = a ∷ b ∷ c ∷ d ∷ [] in
    let l : length (take j w) ≡ j = length-take-le j w (omega arith) in
    rw (e₁, e₂, e₃)
    (ap (take (j + 4)) (sets-eq word w j h)
    ∙ take_at (take j w ++ word) (drop (j + 4) w) (j + 4) (omega (arith, length-append (take j w) word)))

-- After the key's bytes are stored the array begins with the schedule's first words.
pub key_stored : (key stored w : List ℕ) → length key ≡ 32 → length w ≡ 240 → stored ≡ key
    → (length (stored ++ drop 32 w) ≡ 240) × (take 32 (stored ++ drop 32 w) ≡ schedule key 0)
unfolding schedule
key_stored key stored w h l e =
    (rw e (omega (arith, length-append key (drop 32 w), length-drop 32 w)), rw e (take_at key (drop 32 w) 32 h))

-- A turn of the loop: one word more of the schedule.
pub schedule_more : (key w a : List ℕ) (i : ℕ) → 8 ≤ i → i < 60 → length w ≡ 240 → take (4 * i) w ≡ schedule key (i - 8) → a ≡ next_word w i
    → take (4 * (i + 1))
    (set (set (set (set w (4 * i) (get_or a 0 0)) (4 * i + 1) (get_or a 1 0)) (4 * i + 2) (get_or a 2 0)) (4 * i + 3) (get_or a 3 0))
    ≡ schedule key (i + 1 - 8)
unfolding schedule next_word
schedule_more key w a i h k l e f =
    let m : i + 1 - 8 ≡ suc (i - 8) = omega arith in
    let n : 8 + (i - 8) ≡ i = omega arith in
    let p : 4 * (i + 1) ≡ 4 * i + 4 = omega arith in
    rw (p, take_stored w (4 * i) (get_or a 0 0) (get_or a 1 0) (get_or a 2 0) (get_or a 3 0) (omega arith), m, n, e, f, next-take w i h, e)

-- After the loop the array is the schedule.
pub schedule_done : (key w : List ℕ) (i : ℕ) → i ≤ 60 → 60 ≤ i → length w ≡ 240 → take (4 * i) w ≡ schedule key (i - 8) → w ≡ key_expansion key
unfolding key_expansion
schedule_done key w i h k l e =
    let m : i ≡ 60 = omega arith in
    sym (take_all 240 w (omega arith)) ∙ (rw m at e)
