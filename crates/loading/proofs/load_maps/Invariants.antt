-- `loading::load_maps` meets its contract. The loop's invariant: loading all maps is loading those of the volumes from v on into
-- the tables so far. Assumes nothing.
use mathlib.Core.Path.{◌≡◌}
use Prim.Native.Nat.{◌+◌, ◌-◌, ◌*◌}
use Rattle.model.specs.Geometry.{header_of}
use Rattle.model.specs.Opening.{map_entries, load}
use Rattle.loading.proofs.load_maps.Given as goal

abbrev pub invariant-loop-v : goal.invariant-loop-v
invariant-loop-v l =
    load l.g.p l.counts (map_entries l.g (header_of l.g l.device) l.keys) ((l.k + 1) * l.g.p) 0 l.initial.maps l.initial.owners
    ≡ load l.g.p l.counts (map_entries l.g (header_of l.g l.device) l.keys) ((l.k + 1) * l.g.p - l.v * l.g.p) (l.v * l.g.p) l.maps l.owners
