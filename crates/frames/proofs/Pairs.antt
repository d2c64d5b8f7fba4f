-- Laws of numbers of two bytes, as the code reads them. Assumes nothing.
use Prim.Native.Nat.{ℕ, suc, ◌+◌, ◌*◌, ◌≤◌, ◌<◌}
use mathlib.Core.Path.{◌≡◌, refl, ap}
use mathlib.Core.List.{List, ◌++◌}
use native.Mathlib.Nat.{zero-add}
use native.Mathlib.Numerals.{add-one}
use native.Mathlib.Omega.{arith}
use lib.ListN.{length, get_or, set, take, drop}
use lib.Seq.{drop-cons, append_snoc, take-suc-set}
use Rattle.block.specs.Bytes.{number, number_after, window}
use Rattle.block.proofs.Window.{window_part}
use Rattle.model.specs.Parts.{part}
use Rattle.frames.specs.Frames.{pairs}

pub number_pair : (s : List ℕ) (at : ℕ) → at + 2 ≤ length s → get_or s at 0 * 256 + get_or s (at + 1) 0 ≡ number (part at 2 s)
unfolding number_after window
number_pair s at h = simp zero-add at (ap number (window_part s at 2 h))

-- One more number behind those that stand at the start of a list.
pub pairs_turn : (bytes numbers : List ℕ) (i : ℕ) → 2 * i + 1 < length bytes → i < length numbers
    → take i numbers ++ pairs (drop (2 * i) bytes)
    ≡ take (i + 1) (set numbers i (number (part (2 * i) 2 bytes))) ++ pairs (drop (2 * (i + 1)) bytes)
unfolding pairs
pairs_turn bytes numbers i inside room =
    let next : 2 * (i + 1) ≡ suc (suc (2 * i)) = omega arith in
    let n = number (part (2 * i) 2 bytes) in
    rw (
      next,
      add-one i,
      take-suc-set numbers i n room,
      append_snoc,
      drop-cons bytes (2 * i) 0 (omega arith),
      drop-cons bytes (suc (2 * i)) 0 (omega arith),
    )
    refl
