-- Bytes across words, and the circuit on them: on each bit of words it is what it is on bits, and on the bits of a byte it is SBOX, by one
-- computed test. Assumes nothing.
use mathlib.Core.Path.{◌≡◌, refl, sym, ap, ap₂, ◌∙◌}
use mathlib.Core.List.{List, [], ◌∷◌}
use Prim.Native.Nat.{ℕ, zero, suc, ◌/◌, ◌%◌, ◌^◌, ◌<◌}
use native.Mathlib.Nat.{mod-lt, zero-lt-suc, zero-div}
use native.Mathlib.Omega.{arith}
use lib.Dec.{T, eqb, eqb→eq}
use lib.ListN.{get_or, replicate, length-replicate}
use lib.Bits.{bit_xor, bit_and, xor_shr, xor_mod, and_shr, and_mod}
use Rattle.field.specs.Field.{xtimes, times_bits, times, squared, squares, inverse}
use Rattle.field.specs.Sbox.{bit, affine_bit, affine, sbox}
use Rattle.field.proofs.Table.{all, at_each}
use Rattle.circuit.specs.Bits.{bit_of, bits_of, byte_of}
use Rattle.circuit.specs.Circuit.{Gate, xor, and, word, run, inputs, constant, gates, picked, sub_words}

-- ---- a bit of words

pub xor-bit : (i a b : ℕ) → bit_of i (bit_xor a b) ≡ bit_xor (bit_of i a) (bit_of i b)
unfolding bit_of
xor-bit i a b = ap (λ (n : ℕ). n % 2) (xor_shr a b i) ∙ xor_mod (a / 2 ^ i) (b / 2 ^ i) 1

pub and_bit : (i a b : ℕ) → bit_of i (bit_and a b) ≡ bit_and (bit_of i a) (bit_of i b)
unfolding bit_of
and_bit i a b = ap (λ (n : ℕ). n % 2) (and_shr a b i) ∙ and_mod (a / 2 ^ i) (b / 2 ^ i) 1

pub bit_lt : (i w : ℕ) → bit_of i w < 2
unfolding bit_of
bit_lt i w = mod-lt (w / 2 ^ i) (zero-lt-suc 1)

pub zero_bit : (i : ℕ) → bit_of i 0 ≡ 0
unfolding bit_of
zero_bit i = ap (λ (n : ℕ). n % 2) (zero-div (2 ^ i))

pub get_bits : (i : ℕ) (e : List ℕ) (k : ℕ) → bit_of i (get_or e k 0) ≡ get_or (bits_of i e) k 0
get_bits i [] k = zero_bit i
get_bits i (w ∷ e) zero = refl
get_bits i (w ∷ e) (suc k) = get_bits i e k

-- ---- eight words

-- Eight equal entries.
pub eight : {a b c d e f g h a' b' c' d' e' f' g' h' : ℕ} → a ≡ a' → b ≡ b' → c ≡ c' → d ≡ d' → e ≡ e' → f ≡ f' → g ≡ g' → h ≡ h'
    → (a ∷ b ∷ c ∷ d ∷ e ∷ f ∷ g ∷ h ∷ []) ≡ (a' ∷ b' ∷ c' ∷ d' ∷ e' ∷ f' ∷ g' ∷ h' ∷ [])
eight p q r s t u v w = cc

-- The first eight words.
abbrev pub eight_of : List ℕ → List ℕ
eight_of x =
    get_or x 0 0 ∷ get_or x 1 0 ∷ get_or x 2 0 ∷ get_or x 3 0 ∷ get_or x 4 0 ∷ get_or x 5 0 ∷ get_or x 6 0 ∷ get_or x 7 0 ∷ []

-- The eight bits of a byte, the lowest first.
abbrev pub spread : ℕ → List ℕ
spread n =
    bit_of 0 n ∷ bit_of 1 n ∷ bit_of 2 n ∷ bit_of 3 n ∷ bit_of 4 n ∷ bit_of 5 n ∷ bit_of 6 n ∷ bit_of 7 n ∷ []

-- A byte is that of the first eight words.
pub eight_bits : (i : ℕ) (x : List ℕ) → byte_of (bits_of i (eight_of x)) ≡ byte_of (bits_of i x)
unfolding byte_of
eight_bits i x =
    let g = get_bits i x in
    ap byte_of (eight (g 0) (g 1) (g 2) (g 3) (g 4) (g 5) (g 6) (g 7))

pub byte_lt : (i : ℕ) (x : List ℕ) → byte_of (bits_of i x) < 256
unfolding byte_of
byte_lt i x =
    let t : (k : ℕ) → bit_of i (get_or x k 0) < 2 = λ k. bit_lt i (get_or x k 0) in
    let h : byte_of (bits_of i (eight_of x)) < 256 = omega (arith, t 0, t 1, t 2, t 3, t 4, t 5, t 6, t 7) in
    omega (arith, eight_bits i x)

bits_back : (a b c d e f g h : ℕ) → a < 2 → b < 2 → c < 2 → d < 2 → e < 2 → f < 2 → g < 2 → h < 2
    → spread (byte_of (a ∷ b ∷ c ∷ d ∷ e ∷ f ∷ g ∷ h ∷ [])) ≡ (a ∷ b ∷ c ∷ d ∷ e ∷ f ∷ g ∷ h ∷ [])
unfolding bit_of byte_of
bits_back a b c d e f g h p q r s t u v w =
    eight (omega arith) (omega arith) (omega arith) (omega arith) (omega arith) (omega arith) (omega arith) (omega arith)

-- The bits of a byte are those of the words.
byte_bits : (i : ℕ) (x : List ℕ) → spread (byte_of (bits_of i x)) ≡ bits_of i (eight_of x)
byte_bits i x =
    let t : (k : ℕ) → bit_of i (get_or x k 0) < 2 = λ k. bit_lt i (get_or x k 0) in
    ap spread (sym (eight_bits i x)) ∙ bits_back _ _ _ _ _ _ _ _ (t 0) (t 1) (t 2) (t 3) (t 4) (t 5) (t 6) (t 7)

-- Two rules that a test finds equal at each number below count.
pub every : (f g : ℕ → ℕ) (count : ℕ) → T (all (λ n x. eqb (f n) (g n)) 0 (replicate count 0)) → (n : ℕ) → n < count → f n ≡ g n
every f g count t n h =
    eqb→eq (f n) (g n) (at_each (λ m x. eqb (f m) (g m)) (replicate count 0) t n (rw length-replicate h))

-- What holds on the bits of each byte holds on bit i of eight words.
pub on_bytes : (f : List ℕ → ℕ) (g : ℕ → ℕ) → ((n : ℕ) → n < 256 → f (spread n) ≡ g n)
    → (i : ℕ) (x : List ℕ) → f (bits_of i (eight_of x)) ≡ g (byte_of (bits_of i x))
on_bytes f g p i x = ap f (sym (byte_bits i x)) ∙ p (byte_of (bits_of i x)) (byte_lt i x)

-- ---- the circuit

word_bits : (i : ℕ) (g : Gate) (e : List ℕ) → bit_of i (word g e) ≡ word g (bits_of i e)
word_bits i (xor a b) e = xor-bit i (get_or e a 0) (get_or e b 0) ∙ ap₂ bit_xor (get_bits i e a) (get_bits i e b)
word_bits i (and a b) e = and_bit i (get_or e a 0) (get_or e b 0) ∙ ap₂ bit_and (get_bits i e a) (get_bits i e b)

run_bits : (i : ℕ) (gs : List Gate) (e : List ℕ) → bits_of i (run gs e) ≡ run gs (bits_of i e)
run_bits i [] e = refl
run_bits i (g ∷ gs) e = run_bits i gs (word g e ∷ e) ∙ ap (λ (n : ℕ). run gs (n ∷ bits_of i e)) (word_bits i g e)

picked_bits : (i : ℕ) (e : List ℕ) → bits_of i (picked e) ≡ picked (bits_of i e)
picked_bits i e = simp get_bits

constant_bits : (i ones : ℕ) (y : List ℕ) → bits_of i (constant ones y) ≡ constant (bit_of i ones) (bits_of i y)
constant_bits i ones y = simp (xor-bit, get_bits)

-- The circuit with another word of ones.
abbrev circuit : ℕ → List ℕ → List ℕ
circuit ones x = constant ones (picked (run gates (inputs x)))

circuit_bits : (i ones : ℕ) (x : List ℕ) → bits_of i (circuit ones x) ≡ circuit (bit_of i ones) (bits_of i (eight_of x))
circuit_bits i ones x =
    constant_bits i ones (picked (run gates (inputs x)))
    ∙ ap (constant (bit_of i ones)) (picked_bits i (run gates (inputs x)) ∙ ap picked (run_bits i gates (inputs x)))

ones_bit : (i : ℕ) → i < 64 → bit_of i 0xffffffffffffffff ≡ 1
unfolding bit_of
ones_bit = every (λ i. bit_of i 0xffffffffffffffff) (λ i. 1) 64 tt

sbox_bits : (n : ℕ) → n < 256 → byte_of (circuit 1 (spread n)) ≡ sbox n
unfolding bit_of byte_of sbox affine affine_bit bit xtimes times_bits times squared squares inverse
sbox_bits = every (λ n. byte_of (circuit 1 (spread n))) sbox 256 tt

pub sub_byte : (x : List ℕ) (i : ℕ) → i < 64 → byte_of (bits_of i (sub_words x)) ≡ sbox (byte_of (bits_of i x))
unfolding sub_words
sub_byte x i h =
    ap byte_of (circuit_bits i 0xffffffffffffffff x ∙ ap (λ (b : ℕ). circuit b (bits_of i (eight_of x))) (ones_bit i h))
    ∙ on_bytes (λ e. byte_of (circuit 1 e)) sbox sbox_bits i x
