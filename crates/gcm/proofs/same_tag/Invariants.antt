-- `gcm::same_tag` meets its contract. After i turns d is 0 where the first i bytes are the same. Assumes nothing.
use mathlib.Core.Path.{◌≡◌}
use lib.Dec.{eqb}
use lib.ListN.{take}
use Rattle.gcm_spec.specs.Gcm.{same}
use Rattle.gcm.proofs.same_tag.Given as goal

abbrev pub invariant-loop-i : goal.invariant-loop-i
invariant-loop-i l = eqb l.d 0 ≡ same (take l.i l.a) (take l.i l.b)
