-- `mapping::store_maps` meets its contract. After t turns the first t map blocks are stored. Assumes nothing.
use mathlib.Core.Path.{◌≡◌}
use Rattle.model.specs.Parts.{overlay, joined}
use Rattle.mapping.proofs.Rows.{block_bytes}
use Rattle.mapping.proofs.store_maps.Given as goal

abbrev pub invariant-loop-t : goal.invariant-loop-t
invariant-loop-t l = l.device ≡ overlay l.initial.device l.start (joined l.t (block_bytes l.row l.g l.key l.tape l.position))
