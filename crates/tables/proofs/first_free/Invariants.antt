-- `tables::first_free` meets its contract. Before each turn the search from place on gives the answer. Assumes nothing.
use mathlib.Core.Path.{◌≡◌}
use lib.ListN.{length, drop}
use Rattle.model.specs.Search as model
use Rattle.tables.proofs.first_free.Given as goal

abbrev pub invariant-loop-place : goal.invariant-loop-place
invariant-loop-place l =
    model.first_free l.owners (length l.owners) l.start l.perm ≡ model.search l.owners (length l.owners) l.place (drop l.place l.perm)
