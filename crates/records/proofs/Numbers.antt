-- Laws of numbers of eight bytes, least significant first, and of such numbers one after the other. Assumes nothing.
use mathlib.Core.Path.{◌≡◌, refl, sym, ap, ap₂, ◌∙◌}
use mathlib.Core.List.{List, [], ◌∷◌, ◌++◌, append-nil, append_assoc}
use Prim.Native.Nat.{ℕ, zero, suc, ◌+◌, ◌*◌, ◌/◌, ◌^◌, ◌<◌}
use native.Mathlib.Nat.{div-div-eq-div-mul}
use native.Mathlib.Numerals.{add-one}
use native.Mathlib.Omega.{arith}
use Rattle.std.specs.Int.{w64, from_le_bytes, to_le_bytes}
use Rattle.std.proofs.lemmas.Nat.{from_le_bytes-to_le_bytes_8}
use lib.ListN.{length, get_or, take, length-append}
use lib.Seq.{take-suc}
use Rattle.model.specs.Parts.{part}
use Rattle.model.proofs.Parts.{part_first, part_right}
use Rattle.records.specs.Numbers.{little_number, little_endian, eight_at, eight_bytes, numbers_at, numbers_bytes}

pub little_endian-length : (n x : ℕ) → length (little_endian n x) ≡ n
unfolding little_endian
little_endian-length zero x = refl
little_endian-length (suc n) x = ap suc (little_endian-length n (x / 256))

-- The number that the library reads, and the bytes that it writes.
pub little_number-from_le_bytes : (bs : List ℕ) → length bs ≡ 8 → from_le_bytes w64 bs ≡ little_number bs
unfolding little_number
little_number-from_le_bytes (a ∷ b ∷ c ∷ d ∷ e ∷ f ∷ g ∷ h ∷ []) l = omega arith
little_number-from_le_bytes bs l = absurd (omega arith)

pub little_endian-to_le_bytes : (n : ℕ) → to_le_bytes w64 n ≡ eight_bytes n
unfolding little_endian
little_endian-to_le_bytes n = sym (simp div-div-eq-div-mul)

-- What is written reads back.
pub eight_bytes_again : (n : ℕ) → n < 2 ^ 64 → little_number (eight_bytes n) ≡ n
eight_bytes_again n h =
    sym (little_number-from_le_bytes (eight_bytes n) (little_endian-length 8 n))
    ∙ ap (from_le_bytes w64) (sym (little_endian-to_le_bytes n))
    ∙ from_le_bytes-to_le_bytes_8 n h

-- ---- numbers one after the other

-- Numbers that are those at their places are what is read there.
pub numbers_at_entries : (n at : ℕ) (r numbers : List ℕ) → length numbers ≡ n
    → ((j : ℕ) → j < n → get_or numbers j 0 ≡ eight_at (at + 8 * j) r) → numbers ≡ numbers_at n at r
unfolding numbers_at
numbers_at_entries zero at r [] e h = refl
numbers_at_entries zero at r (x ∷ xs) e h = absurd (omega arith)
numbers_at_entries (suc n) at r [] e h = absurd (omega arith)
numbers_at_entries (suc n) at r (x ∷ xs) e h =
    let here : at + 8 * 0 ≡ at = omega arith in
    let next : (j : ℕ) → at + 8 * suc j ≡ at + 8 + 8 * j = λ j. omega arith in
    ap₂ (λ (y : ℕ) (ys : List ℕ). y ∷ ys) (h 0 (omega arith) ∙ ap (λ (a : ℕ). eight_at a r) here)
    (numbers_at_entries n (at + 8) r xs (omega arith) (λ j l. h (suc j) (omega arith) ∙ ap (λ (a : ℕ). eight_at a r) (next j)))

pub numbers_bytes-length : (numbers : List ℕ) → length (numbers_bytes numbers) ≡ 8 * length numbers
unfolding numbers_bytes
numbers_bytes-length [] = omega arith
numbers_bytes-length (x ∷ xs) =
    omega (arith, length-append (eight_bytes x) (numbers_bytes xs), little_endian-length 8 x, numbers_bytes-length xs)

-- Each number stands at its place.
pub numbers_bytes_part : (numbers : List ℕ) (i : ℕ) → i < length numbers → part (8 * i) 8 (numbers_bytes numbers) ≡ eight_bytes (get_or numbers i 0)
unfolding numbers_bytes
numbers_bytes_part [] i h = absurd (omega arith)
numbers_bytes_part (x ∷ xs) zero h = part_first (eight_bytes x) (numbers_bytes xs) 8 (little_endian-length 8 x)
numbers_bytes_part (x ∷ xs) (suc i) h =
    let next : 8 * suc i ≡ 8 + 8 * i = omega arith in
    ap (λ (a : ℕ). part a 8 (numbers_bytes (x ∷ xs))) next
    ∙ part_right (eight_bytes x) (numbers_bytes xs) 8 (little_endian-length 8 x) (8 * i) 8
    ∙ numbers_bytes_part xs i (omega arith)

-- One number more behind those written so far.
numbers_bytes_behind : (numbers : List ℕ) (x : ℕ) → numbers_bytes (numbers ++ (x ∷ [])) ≡ numbers_bytes numbers ++ eight_bytes x
unfolding numbers_bytes
numbers_bytes_behind [] x = append-nil (eight_bytes x)
numbers_bytes_behind (y ∷ ys) x =
    ap (λ (l : List ℕ). eight_bytes y ++ l) (numbers_bytes_behind ys x) ∙ sym (append_assoc (eight_bytes y) (numbers_bytes ys) (eight_bytes x))

pub numbers_bytes_turn : (numbers : List ℕ) (i : ℕ) → i < length numbers
    → numbers_bytes (take i numbers) ++ eight_bytes (get_or numbers i 0) ≡ numbers_bytes (take (i + 1) numbers)
numbers_bytes_turn numbers i h =
    sym (ap (λ (n : ℕ). numbers_bytes (take n numbers)) (add-one i)
    ∙ ap numbers_bytes (take-suc numbers i 0 h)
    ∙ numbers_bytes_behind (take i numbers) (get_or numbers i 0))
