-- `loading::load_volume` meets its contract. The loop's invariant: loading the volume is loading what is left after t map blocks into the
-- tables so far. Assumes nothing.
use mathlib.Core.Path.{◌≡◌}
use Prim.Native.Nat.{ℕ, ◌+◌, ◌-◌, ◌*◌, ◌%◌}
use Rattle.model.specs.Opening.{stored_entry, load}
use Rattle.loading.proofs.load_volume.Given as goal

abbrev pub invariant-loop-t : goal.invariant-loop-t
invariant-loop-t l =
    load l.p l.counts (λ (n : ℕ). stored_entry l.g l.key l.header (n % l.p)) l.p l.start l.initial.maps l.initial.owners
    ≡ load l.p l.counts (λ (n : ℕ). stored_entry l.g l.key l.header (n % l.p)) (l.p - l.t * l.c) (l.start + (l.p - (l.p - l.t * l.c))) l.maps l.owners
