-- Words as numbers: four bytes, sums, ROTWORD and the round constants. Assumes nothing.
use mathlib.Core.Path.{◌≡◌, refl, sym, ap, ap₂, ◌∙◌}
use mathlib.Core.List.{List, [], ◌∷◌}
use Prim.Native.Nat.{ℕ, zero, suc, ◌+◌, ◌*◌, ◌/◌, ◌%◌, ◌^◌, ◌<◌, ◌≤◌}
use native.Mathlib.Omega.{arith}
use native.Mathlib.Nat.{mod-lt}
use lib.Pow.{shr-shr, shr_mod, mod-pow-add}
use lib.Bits.{bit_xor, xor_lt, xor_shr, xor_mod, or_shifted}
use Rattle.std.specs.Int.{w32, from_be_bytes, rotate_left}
use Rattle.rounds.specs.State.{add_word}
use Rattle.rounds.proofs.Words.{four_equal}
use Rattle.aes.specs.KeyExpansion.{rot_word, rcon}
use Rattle.expansion.specs.Words.{word_bytes, Word}

-- A number below 2 ^ 32 is the word of its bytes.
pub own_word : (n : ℕ) → n < 2 ^ 32 → Word n (word_bytes n)
own_word n h = record { small = h; bytes = refl }

-- A word of bytes that are equal.
pub same_word : {n : ℕ} {a b : List ℕ} → Word n a → a ≡ b → Word n b
same_word w e = record { small = w.small; bytes = w.bytes ∙ e }

-- The number of four bytes is their word.
pub byte_word : (a b c d : ℕ) → a < 256 → b < 256 → c < 256 → d < 256 → Word (((a * 256 + b) * 256 + c) * 256 + d) (a ∷ b ∷ c ∷ d ∷ [])
unfolding word_bytes
byte_word a b c d p q r s =
    let n = ((a * 256 + b) * 256 + c) * 256 + d in
    let e₁ : n / 2 ^ 8 ≡ (a * 256 + b) * 256 + c = omega arith in
    let e₂ : ((a * 256 + b) * 256 + c) / 2 ^ 8 ≡ a * 256 + b = omega arith in
    let e₃ : (a * 256 + b) / 2 ^ 8 ≡ a = omega arith in
    let f₂ : n / 2 ^ 16 ≡ a * 256 + b = sym (shr-shr n 8 8) ∙ ap (λ (x : ℕ). x / 2 ^ 8) e₁ ∙ e₂ in
    let f₃ : n / 2 ^ 24 ≡ a = sym (shr-shr n 16 8) ∙ ap (λ (x : ℕ). x / 2 ^ 8) f₂ ∙ e₃ in
    record {
      small = omega arith;
      bytes = four_equal (ap (λ (x : ℕ). x % 256) f₃ ∙ omega arith) (ap (λ (x : ℕ). x % 256) f₂ ∙ omega arith)
          (ap (λ (x : ℕ). x % 256) e₁ ∙ omega arith)
          (omega arith);
    }

-- The same, as the library makes the number.
pub bytes_word : (a b c d : ℕ) → a < 256 → b < 256 → c < 256 → d < 256 → Word (from_be_bytes w32 (a ∷ b ∷ c ∷ d ∷ [])) (a ∷ b ∷ c ∷ d ∷ [])
bytes_word a b c d p q r s =
    let e : from_be_bytes w32 (a ∷ b ∷ c ∷ d ∷ []) ≡ ((a * 256 + b) * 256 + c) * 256 + d = omega arith in
    rw e (byte_word a b c d p q r s)

-- The sum of two words.
pub sum-word : {m n : ℕ} {a b : List ℕ} → Word m a → Word n b → Word (bit_xor m n) (add_word a b)
unfolding word_bytes
sum-word {m} {n} {a} {b} p q =
    let e : (k : ℕ) → bit_xor m n / 2 ^ k % 256 ≡ bit_xor (m / 2 ^ k % 256) (n / 2 ^ k % 256) =
    λ k. ap (λ (x : ℕ). x % 256) (xor_shr m n k) ∙ xor_mod (m / 2 ^ k) (n / 2 ^ k) 8 in
    record {
      small = xor_lt 32 m n p.small q.small;
      bytes = four_equal (e 24) (e 16) (e 8) (xor_mod m n 8) ∙ ap₂ add_word p.bytes q.bytes;
    }

-- ROTWORD.
pub turned_word : (n : ℕ) → n < 2 ^ 32 → Word (rotate_left w32 n 8) (rot_word (word_bytes n))
unfolding word_bytes
turned_word n h =
    let byte : (m : ℕ) → m % 256 < 256 = λ m. mod-lt m (omega arith) in
    let up : n * 2 ^ 8 % 2 ^ 32 ≡ n % 2 ^ 24 * 2 ^ 8 = omega arith in
    let low : n / 2 ^ 24 < 2 ^ 8 = omega arith in
    let e : n % 2 ^ 24 * 256 + n / 2 ^ 24
    ≡ ((n / 2 ^ 16 % 256 * 256 + n / 2 ^ 8 % 256) * 256 + n % 256) * 256 + n / 2 ^ 24 % 256 =
    omega (arith, mod-pow-add n 8 16, mod-pow-add n 8 8, shr_mod 8 24 h) in
    rw (up, or_shifted (n % 2 ^ 24) 8 (n / 2 ^ 24) low, e) (byte_word _ _ _ _ (byte (n / 2 ^ 16)) (byte (n / 2 ^ 8)) (byte n) (byte (n / 2 ^ 24)))

-- The round constants, as code shifts a 1 to its place.
pub constant-word : (j : ℕ) → 1 ≤ j → j < 8 → Word (1 * 2 ^ (23 + j) % 2 ^ 32) (rcon j)
unfolding word_bytes
constant-word zero h k = absurd (omega arith)
constant-word (suc zero) h k = record { small = omega arith; bytes = refl }
constant-word (suc (suc zero)) h k = record { small = omega arith; bytes = refl }
constant-word (suc (suc (suc zero))) h k = record { small = omega arith; bytes = refl }
constant-word (suc (suc (suc (suc zero)))) h k = record { small = omega arith; bytes = refl }
constant-word (suc (suc (suc (suc (suc zero))))) h k = record { small = omega arith; bytes = refl }
constant-word (suc (suc (suc (suc (suc (suc zero)))))) h k = record { small = omega arith; bytes = refl }
constant-word (suc (suc (suc (suc (suc (suc (suc zero))))))) h k = record { small = omega arith; bytes = refl }
constant-word (suc (suc (suc (suc (suc (suc (suc (suc j)))))))) h k = absurd (omega arith)
