-- `tables::flag_named` meets its contract. The slices from each turn on give the flags. Assumes nothing.
use mathlib.Core.Path.{◌≡◌}
use lib.ListN.{drop}
use Rattle.tables.specs.Flagged.{flagged}
use Rattle.tables.proofs.flag_named.Given as goal

abbrev pub invariant-loop-slice : goal.invariant-loop-slice
invariant-loop-slice l = flagged (drop l.slice-index l.perm) l.named ≡ flagged l.perm l.initial.named
