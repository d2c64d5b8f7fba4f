-- Laws of GHASH: padding, blocks that follow one another, and the loop over blocks. Assumes nothing.
use Rattle.std.proofs.Common.{◌≡◌, ℕ, zero, suc, ◌+◌, ◌-◌, ◌*◌, ◌/◌, ◌%◌, ◌<◌, ◌≤◌, List, [], ◌∷◌, ◌++◌, length, get_or, take, drop, replicate, sym, refl, ap, ◌∙◌, ap₂, suc-add, zero-add, arith, length-append, length-drop, min, append_assoc}
use lib.ListN.{length-replicate}
use Rattle.std.proofs.lemmas.List.{append-nil, take_all}
use lib.Seq.{take-append-le, drop-append-le}
use lib.Bits.{bit_xor}
use Rattle.block.specs.Bytes.{number, window}
use Rattle.block.proofs.Window.{window_part, window_same, window-length}
use Rattle.ghash.specs.Product.{product}
use Rattle.ghash.specs.Hash.{hash_blocks, hash_from, pad}

-- ---- padding

get_or_zeros : (n i : ℕ) → ◌≡◌ {A = ℕ} (get_or (replicate n 0) i 0) 0
get_or_zeros zero i = refl
get_or_zeros (suc n) zero = refl
get_or_zeros (suc n) (suc i) = get_or_zeros n i

get_or-++-zeros : (l : List ℕ) (n i : ℕ) → get_or (l ++ replicate n 0) i 0 ≡ get_or l i 0
get_or-++-zeros [] n i = get_or_zeros n i
get_or-++-zeros (x ∷ l) n zero = refl
get_or-++-zeros (x ∷ l) n (suc i) = get_or-++-zeros l n i

pub pad-length : (l : List ℕ) → length (pad l) ≡ (length l + 15) / 16 * 16
unfolding pad
pad-length l =
    let e : length l + (16 - length l % 16) % 16 ≡ (length l + 15) / 16 * 16 = omega arith in
    simp (length-append, length-replicate) e

-- The bytes of padded text are the text's, then zeros.
pub pad-window : (l : List ℕ) (at n : ℕ) → at + n ≤ length (pad l) → take n (drop at (pad l)) ≡ window l at n
unfolding pad
pad-window l at n h =
    sym (window_part (pad l) at n h) ∙ window_same (pad l) l at n (get_or-++-zeros l ((16 - length l % 16) % 16))

-- ---- blocks that follow one another

hash_blocks-++ : (h m n y : ℕ) (a b : List ℕ) → length a ≡ m * 16 → hash_blocks h (m + n) y (a ++ b) ≡ hash_blocks h n (hash_blocks h m y a) b
unfolding hash_blocks
hash_blocks-++ h zero n y [] b e = ap (λ (k : ℕ). hash_blocks h k y b) (zero-add n)
hash_blocks-++ h zero n y (x ∷ a) b e = absurd (omega arith)
hash_blocks-++ h (suc m) n y a b e =
    ap (λ (j : ℕ). hash_blocks h j y (a ++ b)) (suc-add m n)
    ∙ ap₂ (λ (p q : List ℕ). hash_blocks h (m + n) (product (bit_xor y (number p)) h) q)
    (take-append-le 16 a b (omega arith))
    (drop-append-le 16 a b (omega arith))
    ∙ hash_blocks-++ h m n (product (bit_xor y (number (take 16 a))) h) (drop 16 a) b (simp length-drop (omega arith))

pub hash_from-++ : (h y m : ℕ) (a b : List ℕ) → length a ≡ m * 16 → hash_from h y (a ++ b) ≡ hash_from h (hash_from h y a) b
unfolding hash_from
hash_from-++ h y m a b e =
    let p : (length a + length b) / 16 ≡ m + length b / 16 = omega arith in
    let q : m ≡ length a / 16 = omega arith in
    ap (λ (k : ℕ). hash_blocks h k y (a ++ b)) (ap (λ (k : ℕ). k / 16) (length-append a b) ∙ p)
    ∙ hash_blocks-++ h m (length b / 16) y a b e
    ∙ ap (λ (k : ℕ). hash_blocks h (length b / 16) (hash_blocks h k y a) b) q

-- ---- the loop

-- Padded bytes are the 16 read from their first chunk x, then the padded rest.
pad-chunk : (x rest : List ℕ) → length x ≡ min 16 (length (x ++ rest)) → 0 < length (x ++ rest) → pad (x ++ rest) ≡ window x 0 16 ++ pad rest
unfolding pad
pad-chunk x [] e p =
    let q = pad-length x in
    let j = rw append-nil at e in
    let k = rw append-nil at p in
    let n : length (pad x) ≡ 16 = omega arith in
    rw (append-nil x) (sym (take_all 16 (pad x) (omega arith)) ∙ pad-window x 0 16 (omega arith) ∙ sym (append-nil (window x 0 16)))
pad-chunk x (y ∷ ys) e p =
    let rest = y ∷ ys in
    let f : length x ≡ 16 = omega (arith, length-append x rest) in
    let n : (16 - (length x + length rest) % 16) % 16 ≡ (16 - length rest % 16) % 16 = omega arith in
    let w : window x 0 16 ≡ x = window_part x 0 16 (omega arith) ∙ take_all 16 x (omega arith) in
    rw (length-append x rest, n, append_assoc, w)

-- One block.
hash_from_block : (h y : ℕ) (x : List ℕ) → length x ≡ 16 → hash_from h y x ≡ product (bit_xor y (number x)) h
unfolding hash_from hash_blocks
hash_from_block h y x e =
    let n : length x / 16 ≡ 1 = omega arith in
    rw (n, take_all 16 x (omega arith))

-- A turn: the first chunk x of l is absorbed, and the rest is left.
pub hash_from_turn : (h y n : ℕ) (l x rest : List ℕ) {b r : ℕ} → n ≡ 16 → l ≡ x ++ rest → length x ≡ min n (length l) → 0 < length l
    → b ≡ number (window x 0 16) → r ≡ product (bit_xor y b) h → hash_from h r (pad rest) ≡ hash_from h y (pad l)
hash_from_turn h y n l x rest en el ex p eb er =
    let w = window x 0 16 in
    let k = window-length x 0 16 in
    let c = pad-chunk x rest (rw (en, el) at ex) (rw el at p) in
    sym
    (rw (el, c)
    (hash_from-++ h y 1 w (pad rest) k
    ∙ ap (λ (k : ℕ). hash_from h k (pad rest)) (hash_from_block h y w k ∙ rw (er, eb))))

pub hash_from_done : (h y : ℕ) (l : List ℕ) → length l ≡ 0 → y ≡ hash_from h y (pad l)
unfolding pad hash_from hash_blocks
hash_from_done h y [] e = refl
hash_from_done h y (x ∷ l) e = absurd (omega arith)
