-- Planes, words and bytes of a block. Assumes nothing.
use mathlib.Core.Path.{◌≡◌, sym, ap, ap₂, ◌∙◌}
use mathlib.Core.List.{List, ◌++◌}
use Prim.Native.Nat.{ℕ, ◌+◌, ◌-◌, ◌*◌, ◌/◌, ◌%◌, ◌^◌, ◌<◌}
use native.Mathlib.Nat.{zero-add, add_comm, div-one, div-add-mod', mod-lt}
use native.Mathlib.Omega.{arith}
use lib.Pow.{mod-pow-add, shr_lt, pow_pos}
use lib.ListN.{get_or, length, take, drop}
use Rattle.block.specs.Bytes.{big_endian}
use Rattle.block.proofs.Bytes.{big_endian-++}
use Rattle.circuit.specs.Bits.{bit_of, bits_of, byte_of}
use Rattle.circuit.proofs.Laws.{eight, spread}
use Rattle.swaps.proofs.Laws.{shr_bit}
use Rattle.turn.specs.Turn.{turned_of}
use Rattle.turn.proofs.Laws as turn
use Rattle.rounds.specs.State.{four, state_of, bytes_of}
use Rattle.rounds.proofs.Words.{four_equal}
use Rattle.packing.specs.Planes.{row_from, state_at, block_bytes, first_word, second_word}
use Rattle.packing.specs.Theorems.{PackingLaws}

-- ---- bytes across words

around : (a b c d e f g h : ℕ)
    → a + b * 2 + c * 4 + d * 8 + e * 16 + f * 32 + g * 64 + h * 128
    ≡ h * 128 + (g * 64 + (f * 32 + (e * 16 + (d * 8 + (c * 4 + (b * 2 + a))))))
around a b c d e f g h = omega arith

-- The byte of the lowest eight bits of a number.
pub byte_spread : (n : ℕ) → byte_of (spread n) ≡ n % 256
unfolding byte_of bit_of
byte_spread n =
    let m = mod-pow-add n 1 in
    rw (div-one n, m 7, m 6, m 5, m 4, m 3, m 2, m 1) (around _ _ _ _ _ _ _ _)

-- The byte of bits e to e + 7 of v, where they are bit i of the eight words from place at on.
byte_at : (x : List ℕ) (at i v e : ℕ) → ((j : ℕ) → j < 8 → bit_of i (get_or x (at + j) 0) ≡ bit_of (e + j) v)
    → byte_of (bits_of i (row_from x at)) ≡ v / 2 ^ e % 256
byte_at x at i v e h =
    let z : at + 0 ≡ at = omega arith in
    let g : (j : ℕ) → j < 8 → bit_of i (get_or x (at + j) 0) ≡ bit_of j (v / 2 ^ e) = λ j l. h j l ∙ sym (shr_bit e j v) in
    ap byte_of
    (eight (rw z at (g 0 (omega arith))) (g 1 (omega arith)) (g 2 (omega arith)) (g 3 (omega arith)) (g 4 (omega arith))
    (g 5 (omega arith)) (g 6 (omega arith)) (g 7 (omega arith)))
    ∙ byte_spread (v / 2 ^ e)

-- ---- the transposition

-- Row r of column c of block b, where 16 blocks lie in the 32 words x.
abbrev packed_byte : List ℕ → ℕ → ℕ → ℕ → ℕ
packed_byte x b c r = get_or x (16 * (c % 2) + b) 0 / 2 ^ (32 * (c / 2) + 8 * (3 - r)) % 256

-- The words y are the words x, each half of 32 bits turned.
abbrev Turned : List ℕ → List ℕ → Type 0
Turned x y = (w i : ℕ) → w < 32 → i < 64 → bit_of i (get_or y w 0) ≡ bit_of (i / 32 * 32 + w) (get_or x (i % 32) 0)

plane_byte : (x y : List ℕ) (b : ℕ) → b < 16 → Turned x y → (c r : ℕ) → c < 4 → r < 4
    → byte_of (bits_of (16 * c + b) (row_from y (8 * (3 - r)))) ≡ packed_byte x b c r
plane_byte x y b l t c r p q =
    byte_at y (8 * (3 - r)) (16 * c + b) _ _
    (λ j s.
    let k : (16 * c + b) / 32 * 32 + (8 * (3 - r) + j) ≡ 32 * (c / 2) + 8 * (3 - r) + j = omega arith in
    let w : (16 * c + b) % 32 ≡ 16 * (c % 2) + b = omega arith in
    t (8 * (3 - r) + j) (16 * c + b) (omega arith) (omega arith) ∙ ap₂ (λ (n m : ℕ). bit_of n (get_or x m 0)) k w)

-- Lists of four equal entries.
pub four_of : {A : Type 0} (f g : ℕ → A) → ((i : ℕ) → i < 4 → f i ≡ g i) → four f ≡ four g
four_of f g h = four_equal (h 0 (omega arith)) (h 1 (omega arith)) (h 2 (omega arith)) (h 3 (omega arith))

-- The state in turned words is that of the block in the words.
planes : (x y : List ℕ) (b : ℕ) → b < 16 → Turned x y → state_at y b ≡ state_of (block_bytes (get_or x b 0) (get_or x (16 + b) 0))
unfolding state_at block_bytes
planes x y b l t =
    four_of _ (λ c. four (packed_byte x b c)) (λ c p. four_of _ (packed_byte x b c) (λ r q. plane_byte x y b l t c r p q))
    ∙ simp (zero-add, div-one)

-- Words turned twice are as they were.
turned_back : (z : List ℕ) → length z ≡ 32 → Turned (turned_of z) z
turned_back z e w i p q =
    let k : (i / 32 * 32 + w) / 32 * 32 + i % 32 ≡ i = omega arith in
    let v : (i / 32 * 32 + w) % 32 ≡ w = omega arith in
    sym ((turn.laws).at z e (i % 32) (i / 32 * 32 + w) (omega arith) (omega arith) ∙ ap₂ (λ (n m : ℕ). bit_of n (get_or z m 0)) k v)

out : (z : List ℕ) (b : ℕ) → length z ≡ 32 → b < 16
    → block_bytes (get_or (turned_of z) b 0) (get_or (turned_of z) (16 + b) 0) ≡ bytes_of (state_at z b)
unfolding block_bytes
out z b e l = sym (ap bytes_of (planes (turned_of z) z b l (turned_back z e)))

-- ---- the halves of a block

-- The bytes of two words are those of their halves.
words : (p q : ℕ)
    → block_bytes p q ≡ drop 4 (big_endian 8 p) ++ (drop 4 (big_endian 8 q) ++ (take 4 (big_endian 8 p) ++ take 4 (big_endian 8 q)))
unfolding block_bytes big_endian
words p q = simp div-one

-- A word of two halves.
word_halves : (h l : ℕ) → l < 2 ^ 32 → big_endian 8 (l + h * 2 ^ 32) ≡ big_endian 4 h ++ big_endian 4 l
word_halves h l b = ap (big_endian 8) (add_comm l (h * 2 ^ 32)) ∙ big_endian-++ 4 4 h l b

-- A half of a block.
half_halves : (x : ℕ) → big_endian 8 x ≡ big_endian 4 (x / 2 ^ 32) ++ big_endian 4 (x % 2 ^ 32)
half_halves x =
    ap (big_endian 8) (sym (div-add-mod' x (2 ^ 32))) ∙ big_endian-++ 4 4 (x / 2 ^ 32) (x % 2 ^ 32) (mod-lt x (pow_pos 32))

packed : (hi lo : ℕ) → hi < 2 ^ 64 → lo < 2 ^ 64
    → block_bytes (first_word hi lo) (second_word hi lo) ≡ big_endian 16 (hi * 2 ^ 64 + lo)
unfolding first_word second_word big_endian
packed hi lo b d =
    let p = word_halves (lo / 2 ^ 32) (hi / 2 ^ 32) (shr_lt 32 32 b) in
    let q = word_halves (lo % 2 ^ 32) (hi % 2 ^ 32) (mod-lt hi (pow_pos 32)) in
    words _ _
    ∙ ap₂ (λ (s t : List ℕ). drop 4 s ++ (drop 4 t ++ (take 4 s ++ take 4 t))) p q
    ∙ sym (big_endian-++ 8 8 hi lo d ∙ ap₂ (λ (s t : List ℕ). s ++ t) (half_halves hi) (half_halves lo))

pub laws : PackingLaws
laws = record { into = λ x b e l. planes x (turned_of x) b l ((turn.laws).at x e); out = out; packed = packed }
