-- `records::counts_in` meets its contract. After i turns the first i counts are those of the struct. Assumes nothing.
use mathlib.Core.Path.{◌≡◌}
use Prim.Native.Nat.{ℕ, ◌+◌, ◌*◌, ◌<◌}
use lib.ListN.{length, get_or}
use Rattle.records.specs.Numbers.{eight_at}
use Rattle.records.proofs.counts_in.Given as goal

abbrev pub invariant-loop-i : goal.invariant-loop-i
invariant-loop-i l = (length l.counts ≡ 15) × ((j : ℕ) → j < l.i → get_or l.counts j 0 ≡ eight_at (528 + 8 * j) l.r)
