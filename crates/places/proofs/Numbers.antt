-- Laws of numbers of four bytes, as the code reads and writes them. Assumes nothing.
use Prim.Native.Nat.{ℕ, ◌+◌, ◌*◌, ◌≤◌}
use mathlib.Core.Path.{◌≡◌, sym, ap}
use mathlib.Core.List.{List, [], ◌∷◌}
use native.Mathlib.Nat.{zero-add, add_assoc, div-one}
use native.Mathlib.Omega.{arith}
use lib.ListN.{length, get_or, take, drop}
use Rattle.std.specs.Int.{w32, w64, from_be_bytes, to_be_bytes}
use Rattle.block.specs.Bytes.{number, number_after, big_endian, window}
use Rattle.block.proofs.Window.{window_part}
use Rattle.model.specs.Geometry.{number_at, four_bytes}

-- The number that four bytes are, as std reads them, and the four lowest bytes that std writes of a number.
pub number_at_bytes : (s : List ℕ) (at : ℕ) → at + 4 ≤ length s
    → from_be_bytes w32 (get_or s at 0 ∷ get_or s (at + 1) 0 ∷ get_or s (at + 2) 0 ∷ get_or s (at + 3) 0 ∷ []) ≡ number_at at s
unfolding number_after window
number_at_bytes s at h =
    let nested : ((get_or s at 0 * 256 + get_or s (at + 1) 0) * 256 + get_or s (at + 2) 0) * 256 + get_or s (at + 3) 0 ≡ number_at at s =
    simp (zero-add, add_assoc) at (ap number (window_part s at 4 h)) in
    omega (arith, nested)

pub low_four : (n : ℕ) → take 4 (drop 4 (to_be_bytes w64 n)) ≡ four_bytes n
unfolding big_endian
low_four n = sym (simp div-one)
