-- Numbers as bytes, most significant first: int(X) and [x]_s of SP 800-38D, section 5.2, and the numbers on a device
-- (document 01, "Geometry of a stick"). Assumes nothing.
use Rattle.std.specs.Prelude.{ℕ, zero, suc, ◌+◌, ◌*◌, ◌/◌, ◌%◌, ◌^◌, List, [], ◌∷◌, slice_index}

-- The number of bytes that follow those of the number n.
unfoldable pub number_after : ℕ → List ℕ → ℕ
number_after n [] = n
number_after n (b ∷ bs) = number_after (n * 256 + b) bs

-- The number that bytes are, most significant first.
abbrev pub number : List ℕ → ℕ
number bs = number_after 0 bs

-- The n lowest bytes of the number x, most significant first.
unfoldable pub big_endian : ℕ → ℕ → List ℕ
big_endian zero x = []
big_endian (suc n) x = x / 256 ^ n % 256 ∷ big_endian n x

-- The n bytes of s from place at on, 0 past the end of s.
unfoldable pub window : List ℕ → ℕ → ℕ → List ℕ
window s at zero = []
window s at (suc n) = slice_index s at ∷ window s (at + 1) n
