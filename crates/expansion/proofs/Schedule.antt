-- The words of the key expansion, each from the words before it, and the words as numbers in an array. Assumes nothing.
use mathlib.Core.Path.{◌≡◌, sym, ap, ap₂, ◌∙◌}
use mathlib.Core.Logic.{⊎_elim}
use mathlib.Core.List.{List, ◌++◌}
use Prim.Native.Nat.{ℕ, zero, suc, ◌+◌, ◌*◌, ◌-◌, ◌<◌, ◌≤◌}
use native.Mathlib.Nat.{eq-or-lt_of_le}
use native.Mathlib.Omega.{arith}
use borrow.Author.Count.{below_more}
use lib.ListN.{length, get_or, set, get_or-append}
use lib.Seq.{get_or-append-add, get_or-set_same, get_or-set_other}
use lib.Bits.{bit_xor}
use Rattle.rounds.specs.State.{add_word}
use Rattle.rounds.proofs.Words.{four_equal}
use Rattle.aes.specs.KeyExpansion.{word_at, changed_word, next_word, schedule, key_expansion}
use Rattle.aes.proofs.Schedule.{schedule_length}
use Rattle.expansion.specs.Words.{word_bytes, Word}
use Rattle.expansion.proofs.Numbers.{same_word, sum-word}

-- A word of the first of two lists, and the first word of the second.
word-before : (u v : List ℕ) (i : ℕ) → 4 * i + 4 ≤ length u → word_at (u ++ v) i ≡ word_at u i
word-before u v i h =
    four_equal (get_or-append u v 0 (4 * i) (omega arith)) (get_or-append u v 0 (4 * i + 1) (omega arith))
    (get_or-append u v 0 (4 * i + 2) (omega arith))
    (get_or-append u v 0 (4 * i + 3) (omega arith))

word_after : (u v : List ℕ) (i : ℕ) → length u ≡ 4 * i → word_at (u ++ v) i ≡ word_at v 0
word_after u v i e =
    let g : (k : ℕ) → get_or (u ++ v) (4 * i + k) 0 ≡ get_or v k 0 = λ k. ap (λ (n : ℕ). get_or (u ++ v) (n + k) 0) (sym e) ∙ get_or-append-add u v k 0 in
    let z : 4 * i ≡ 4 * i + 0 = omega arith in
    four_equal (ap (λ (n : ℕ). get_or (u ++ v) n 0) z ∙ g 0) (g 1) (g 2) (g 3)

module _ (key : List ℕ) (whole : length key ≡ 32) where
  -- A word stays as it is while the schedule grows.
  word_stays : (m n i : ℕ) → n ≤ m → i < 8 + n → word_at (schedule key m) i ≡ word_at (schedule key n) i
  unfolding schedule
  word_stays zero n i h k =
      let e : n ≡ 0 = omega arith in
      rw e
  word_stays (suc m) n i h k =
      ⊎_elim (λ (e : n ≡ suc m). rw e)
      (λ (l : n < suc m).
      word-before (schedule key m) (next_word (schedule key m) (8 + m)) i (omega (arith, schedule_length key whole m))
      ∙ word_stays m n i (omega arith) k)
      (eq-or-lt_of_le h)

  -- The word that is appended.
  word_new : (n : ℕ) → word_at (schedule key (suc n)) (8 + n) ≡ next_word (schedule key n) (8 + n)
  unfolding schedule next_word
  word_new n = word_after (schedule key n) (next_word (schedule key n) (8 + n)) (8 + n) (omega (arith, schedule_length key whole n))

  -- The first eight words are the key's.
  key_word : (i : ℕ) → i < 8 → word_at (key_expansion key) i ≡ word_at key i
  unfolding key_expansion schedule
  key_word i h = word_stays 52 0 i (omega arith) (omega arith)

  -- Each other word is made of the words before it.
  next_word_lem : (i : ℕ) → 8 ≤ i → i < 60 → word_at (key_expansion key) i ≡ next_word (key_expansion key) i
  unfolding key_expansion next_word
  next_word_lem i h k =
      let n = i - 8 in
      let e : 8 + n ≡ i = omega arith in
      let stays : (j : ℕ) → j < i → word_at (schedule key n) j ≡ word_at (schedule key 52) j = λ j l. sym (word_stays 52 n j (omega arith) (omega arith)) in
      word_stays 52 (suc n) i (omega arith) (omega arith) ∙ (rw e at (word_new n))
      ∙ ap₂ (λ (a b : List ℕ). add_word a (changed_word i b)) (stays (i - 8) (omega arith)) (stays (i - 1) (omega arith))

-- The first n numbers of w are the first words of a key's schedule.
abbrev pub Begun : List ℕ → List ℕ → ℕ → Type 0
Begun key w n = (i : ℕ) → i < n → Word (get_or w i 0) (word_at (key_expansion key) i)

-- One word more.
begun_more : (key w : List ℕ) (n v : ℕ) → n < length w → Begun key w n → Word v (word_at (key_expansion key) n) → Begun key (set w n v) (n + 1)
begun_more key w n v h b p =
    below_more (λ (i : ℕ). Word (get_or (set w n v) i 0) (word_at (key_expansion key) i)) n
    (λ i l. rw (get_or-set_other w n i v 0 (λ e. omega arith)) (b i l))
    (rw (get_or-set_same w n v 0 h) p)

-- A turn of the first loop: a word of the key.
pub key_more : (key w : List ℕ) (n : ℕ) {v : ℕ} → length key ≡ 32 → length w ≡ 60 → n < 8 → Begun key w n → Word v (word_at key n)
    → Begun key (set w n v) (n + 1)
key_more key w n {v} e f h b p = begun_more key w n v (omega arith) b (same_word p (sym (key_word key e n h)))

-- A turn of the second loop: a word from those before it.
pub next_more : (key w : List ℕ) (n : ℕ) {a : ℕ} → length key ≡ 32 → length w ≡ 60 → 8 ≤ n → n < 60 → Begun key w n
    → Word a (changed_word n (word_bytes (get_or w (n - 1) 0))) → Begun key (set w n (bit_xor (get_or w (n - 8) 0) a)) (n + 1)
unfolding next_word
next_more key w n {a} e f h k b p =
    let last = b (n - 1) (omega arith) in
    begun_more key w n (bit_xor (get_or w (n - 8) 0) a) (omega arith) b
    (same_word (sum-word (b (n - 8) (omega arith)) (same_word p (ap (changed_word n) last.bytes))) (sym (next_word_lem key e n h k)))
