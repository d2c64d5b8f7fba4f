-- `loading::load_entries` meets its contract. The loop's invariant: loading all entries is loading those not yet passed into
-- the tables so far. Assumes nothing.
use mathlib.Core.Path.{◌≡◌}
use Prim.Native.Nat.{ℕ, ◌+◌, ◌-◌, ◌*◌}
use lib.ListN.{length}
use Rattle.model.specs.Geometry.{number_at}
use Rattle.model.specs.Opening.{load}
use Rattle.loading.proofs.load_entries.Given as goal

abbrev pub invariant-loop-e : goal.invariant-loop-e
invariant-loop-e l =
    load (length l.initial.owners) l.counts (λ (i : ℕ). number_at (4 * (i - l.n)) l.text) l.count l.n l.initial.maps l.initial.owners
    ≡ load (length l.initial.owners) l.counts (λ (i : ℕ). number_at (4 * (i - l.n)) l.text) (l.count - l.e) (l.n + l.e) l.maps l.owners
