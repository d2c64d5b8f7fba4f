-- `places::copy` meets its contract. After i turns the first i bytes are those of src. Assumes nothing.
use Rattle.std.proofs.Common.{◌≡◌, ℕ, ◌<◌, length, get_or}
use Rattle.places.proofs.copy.Given as goal

abbrev pub invariant-loop-i : goal.invariant-loop-i
invariant-loop-i l = (length l.dst ≡ length l.src) × ((k : ℕ) → k < l.i → get_or l.dst k 0 ≡ get_or l.src k 0)
