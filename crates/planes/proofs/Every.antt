-- The bits of one block of a word, put into every block, bit by bit. Assumes nothing.
use mathlib.Core.Path.{◌≡◌, refl, sym, ap, ◌∙◌}
use mathlib.Core.List.{[], ◌∷◌}
use Prim.Native.Nat.{ℕ, zero, suc, ◌+◌, ◌-◌, ◌*◌, ◌/◌, ◌%◌, ◌^◌, ◌<◌}
use native.Mathlib.Omega.{arith}
use lib.ListN.{get_or}
use lib.Bits.{bit_and}
use Rattle.circuit.specs.Bits.{bit_of}
use Rattle.circuit.proofs.Laws.{bit_lt, zero_bit, every}
use Rattle.swaps.proofs.Laws.{shr_bit, cut_bit}
use Rattle.swaps.proofs.Masks.{masked}
use Rattle.planes.specs.Rounds.{every_block}

-- A column of ones has a one at each bit, and a column of zeros none.
column-bit : (n y : ℕ) → n < 16 → y < 2 → bit_of n (y * 0xffff) ≡ y
unfolding bit_of
column-bit n zero h l = zero_bit n
column-bit n (suc zero) h l = every (λ i. bit_of i 0xffff) (λ i. 1) 16 tt n h
column-bit n (suc (suc y)) h l = absurd (omega arith)

-- The lowest column of a number of columns, and those above it.
low_bit : (n r y : ℕ) → n < 16 → y < 2 → bit_of n ((r * 2 ^ 16 + y) * 0xffff) ≡ y
low_bit n r y h l =
    let w : 16 ≡ 15 - n + 1 + n = omega arith in
    let e : (r * 2 ^ 16 + y) * 0xffff % 2 ^ 16 ≡ y * 0xffff = omega arith in
    sym (cut_bit (15 - n) n ((r * 2 ^ 16 + y) * 0xffff))
    ∙ ap (λ (k : ℕ). bit_of n ((r * 2 ^ 16 + y) * 0xffff % 2 ^ k)) (sym w) ∙ ap (bit_of n) e ∙ column-bit n y h l

high_bit : (i r y : ℕ) → y < 2 → bit_of (16 + i) ((r * 2 ^ 16 + y) * 0xffff) ≡ bit_of i (r * 0xffff)
high_bit i r y l =
    let e : (r * 2 ^ 16 + y) * 0xffff / 2 ^ 16 ≡ r * 0xffff = omega arith in
    sym (shr_bit 16 i ((r * 2 ^ 16 + y) * 0xffff)) ∙ ap (bit_of i) e

-- Bit n of column i of four columns, each of ones or of zeros.
four_columns : (n a b c d : ℕ) → n < 16 → a < 2 → b < 2 → c < 2 → d < 2 → (i : ℕ) → i < 4
    → bit_of (16 * i + n) ((((d * 2 ^ 16 + c) * 2 ^ 16 + b) * 2 ^ 16 + a) * 0xffff) ≡ get_or (a ∷ b ∷ c ∷ d ∷ []) i 0
four_columns n a b c d h p q r s zero l = ap (λ (k : ℕ). bit_of k ((((d * 2 ^ 16 + c) * 2 ^ 16 + b) * 2 ^ 16 + a) * 0xffff)) (omega arith) ∙ low_bit n _ a h p
four_columns n a b c d h p q r s (suc zero) l = high_bit n _ a p ∙ low_bit n _ b h q
four_columns n a b c d h p q r s (suc (suc zero)) l =
    ap (λ (k : ℕ). bit_of k ((((d * 2 ^ 16 + c) * 2 ^ 16 + b) * 2 ^ 16 + a) * 0xffff)) (omega arith)
    ∙ high_bit (16 + n) _ a p ∙ high_bit n _ b q ∙ low_bit n _ c h r
four_columns n a b c d h p q r s (suc (suc (suc zero))) l =
    ap (λ (k : ℕ). bit_of k ((((d * 2 ^ 16 + c) * 2 ^ 16 + b) * 2 ^ 16 + a) * 0xffff)) (omega arith)
    ∙ high_bit (16 + (16 + n)) _ a p ∙ high_bit (16 + n) _ b q ∙ high_bit n _ c r ∙ column-bit n d h s
four_columns n a b c d h p q r s (suc (suc (suc (suc i)))) l = absurd (omega arith)

-- Bit n of column c of the columns of ones is the lowest bit that column c had.
ones_bit : (n c x : ℕ) → n < 16 → c < 4
    → bit_of (16 * c + n) (bit_and x 0x0001000100010001 * 0xffff) ≡ get_or (bit_of 0 x ∷ bit_of 16 x ∷ bit_of 32 x ∷ bit_of 48 x ∷ []) c 0
ones_bit n c x h l =
    ap (λ (z : ℕ). bit_of (16 * c + n) (z * 0xffff)) (masked 15 x)
    ∙ four_columns n (bit_of 0 x) (bit_of 16 x) (bit_of 32 x) (bit_of 48 x) h (bit_lt 0 x) (bit_lt 16 x) (bit_lt 32 x) (bit_lt 48 x) c l

-- The lowest bit of column c.
lowest_at : (c x : ℕ) → c < 4 → get_or (bit_of 0 x ∷ bit_of 16 x ∷ bit_of 32 x ∷ bit_of 48 x ∷ []) c 0 ≡ bit_of (16 * c) x
lowest_at zero x l = refl
lowest_at (suc zero) x l = refl
lowest_at (suc (suc zero)) x l = refl
lowest_at (suc (suc (suc zero))) x l = refl
lowest_at (suc (suc (suc (suc c)))) x l = absurd (omega arith)

pub every_bit : (m n c x : ℕ) → m < 16 → n < 16 → c < 4 → bit_of (16 * c + n) (every_block m x) ≡ bit_of (16 * c + m) x
unfolding every_block
every_bit m n c x h l p =
    let e : m + 16 * c ≡ 16 * c + m = omega arith in
    ones_bit n c (x / 2 ^ m) l p ∙ lowest_at c (x / 2 ^ m) p ∙ shr_bit m (16 * c) x ∙ ap (λ (i : ℕ). bit_of i x) e
