-- A row of MIXCOLUMNS byte by byte: the sum by bits, 02 • by one computed test, and the rest by what is proved of bytes. Assumes nothing.
use mathlib.Core.Path.{◌≡◌, refl, sym, ap, ap₂, ◌∙◌}
use mathlib.Core.List.{List}
use Prim.Native.Nat.{ℕ, zero, suc, ◌+◌, ◌*◌, ◌<◌}
use native.Mathlib.Omega.{arith}
use lib.ListN.{get_or}
use lib.Bits.{bit_xor, xor_block}
use Rattle.field.specs.Field.{xtimes}
use Rattle.rounds.specs.State.{mix_byte}
use Rattle.rounds.proofs.Linear.{mix_product}
use Rattle.circuit.specs.Bits.{bit_of, bits_of, byte_of}
use Rattle.circuit.proofs.Laws.{xor-bit, bit_lt, get_bits, eight_of, spread, byte_lt, every, on_bytes}
use Rattle.mix.specs.Mix.{sum_words, doubled_words, mix_words}

-- ---- the sum

-- The number of n bits, the lowest first.
abbrev number : ℕ → (ℕ → ℕ) → ℕ
number zero f = 0
number (suc n) f = number n (λ k. f (suc k)) * 2 + f 0

number-sum : (n : ℕ) (f g : ℕ → ℕ) → ((k : ℕ) → f k < 2) → ((k : ℕ) → g k < 2)
    → number n (λ k. bit_xor (f k) (g k)) ≡ bit_xor (number n f) (number n g)
number-sum zero f g p q = refl
number-sum (suc n) f g p q =
    let f' : ℕ → ℕ = λ k. f (suc k) in
    let g' : ℕ → ℕ = λ k. g (suc k) in
    ap (λ (u : ℕ). u * 2 + bit_xor (f 0) (g 0)) (number-sum n f' g' (λ k. p (suc k)) (λ k. q (suc k)))
    ∙ sym (xor_block 1 (number n f') (number n g') (f 0) (g 0) (p 0) (q 0))

byte_number : (i : ℕ) (x : List ℕ) → byte_of (bits_of i x) ≡ number 8 (λ k. bit_of i (get_or x k 0))
unfolding byte_of
byte_number i x = simp get_bits (omega arith)

pub sum_byte : (a b : List ℕ) (i : ℕ) → byte_of (bits_of i (sum_words a b)) ≡ bit_xor (byte_of (bits_of i a)) (byte_of (bits_of i b))
unfolding sum_words
sum_byte a b i =
    let f : ℕ → ℕ = λ k. bit_of i (get_or a k 0) in
    let g : ℕ → ℕ = λ k. bit_of i (get_or b k 0) in
    let e : number 8 (λ k. bit_of i (get_or (sum_words a b) k 0)) ≡ number 8 (λ k. bit_xor (f k) (g k)) = simp xor-bit in
    byte_number i (sum_words a b) ∙ e ∙ number-sum 8 f g (λ k. bit_lt i (get_or a k 0)) (λ k. bit_lt i (get_or b k 0))
    ∙ sym (ap₂ bit_xor (byte_number i a) (byte_number i b))

-- ---- 02 •

doubled_bits : (i : ℕ) (x : List ℕ) → bits_of i (doubled_words x) ≡ doubled_words (bits_of i (eight_of x))
unfolding doubled_words
doubled_bits i x = simp xor-bit

xtimes_bits : (n : ℕ) → n < 256 → byte_of (doubled_words (spread n)) ≡ xtimes n
unfolding bit_of byte_of doubled_words xtimes
xtimes_bits = every (λ n. byte_of (doubled_words (spread n))) xtimes 256 tt

pub doubled_byte : (x : List ℕ) (i : ℕ) → byte_of (bits_of i (doubled_words x)) ≡ xtimes (byte_of (bits_of i x))
doubled_byte x i = ap byte_of (doubled_bits i x) ∙ on_bytes (λ e. byte_of (doubled_words e)) xtimes xtimes_bits i x

-- ---- a row

pub mixed_byte : (a b c d : List ℕ) (i : ℕ)
    → byte_of (bits_of i (mix_words a b c d)) ≡ mix_byte (byte_of (bits_of i a)) (byte_of (bits_of i b)) (byte_of (bits_of i c)) (byte_of (bits_of i d))
unfolding mix_words
mixed_byte a b c d i =
    let m = doubled_words (sum_words a b) in
    sum_byte (sum_words m b) (sum_words c d) i
    ∙ ap₂ bit_xor (sum_byte m b i) (sum_byte c d i)
    ∙ mix_product _ _ _ _ (byte_lt i a) (byte_lt i b) (doubled_byte (sum_words a b) i ∙ ap xtimes (sum_byte a b i))
