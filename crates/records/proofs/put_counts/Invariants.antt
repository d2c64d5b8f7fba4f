-- `records::put_counts` meets its contract. After i turns the first i counts stand in the struct. Assumes nothing.
use mathlib.Core.Path.{◌≡◌}
use lib.ListN.{length, take}
use Rattle.model.specs.Parts.{overlay}
use Rattle.records.specs.Numbers.{numbers_bytes}
use Rattle.records.proofs.put_counts.Given as goal

abbrev pub invariant-loop-i : goal.invariant-loop-i
invariant-loop-i l = (length l.r ≡ length l.initial.r) × (l.r ≡ overlay l.initial.r 528 (numbers_bytes (take l.i l.counts)))
