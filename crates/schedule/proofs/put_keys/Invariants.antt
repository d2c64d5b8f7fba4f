-- `schedule::put_keys` meets its contract: before turn n the round keys below n stand as blocks. Assumes nothing.
use Rattle.std.proofs.Common.{◌≡◌, ℕ, ◌<◌, length}
use Rattle.schedule.specs.Keys.{KeyBlock}
use Rattle.schedule.proofs.put_keys.Given as goal

abbrev pub invariant-loop-n : goal.invariant-loop-n
invariant-loop-n l = (length l.s ≡ 512) × ((m : ℕ) → m < l.n → KeyBlock l.w l.s m)
