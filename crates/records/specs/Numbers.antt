-- Numbers of eight bytes in a struct of C, on a machine that stores the least significant byte first. Assumes nothing.
use Rattle.std.specs.Prelude.{ℕ, zero, suc, ◌+◌, ◌*◌, ◌/◌, ◌%◌, List, [], ◌∷◌, ◌++◌}
use Rattle.model.specs.Parts.{part}

-- The number that bytes are, least significant first.
unfoldable pub little_number : List ℕ → ℕ
little_number [] = 0
little_number (b ∷ bs) = little_number bs * 256 + b

-- The n lowest bytes of the number x, least significant first.
unfoldable pub little_endian : ℕ → ℕ → List ℕ
little_endian zero x = []
little_endian (suc n) x = x % 256 ∷ little_endian n (x / 256)

-- A number in a struct, from byte at on.
abbrev pub eight_at : ℕ → List ℕ → ℕ
eight_at at r = little_number (part at 8 r)

-- The bytes of a number in a struct.
abbrev pub eight_bytes : ℕ → List ℕ
eight_bytes x = little_endian 8 x

-- n numbers in a struct, one after the other from byte at on, and the bytes of numbers so.
unfoldable pub numbers_at : (n at : ℕ) → List ℕ → List ℕ
numbers_at zero at r = []
numbers_at (suc n) at r = eight_at at r ∷ numbers_at n (at + 8) r

unfoldable pub numbers_bytes : List ℕ → List ℕ
numbers_bytes [] = []
numbers_bytes (x ∷ xs) = eight_bytes x ++ numbers_bytes xs

-- Three numbers, one after the other.
abbrev pub three_bytes : (x y z : ℕ) → List ℕ
three_bytes x y z = eight_bytes x ++ (eight_bytes y ++ eight_bytes z)
