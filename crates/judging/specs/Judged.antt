-- The last refusals of a release (document 02, P5 and P7). Assumes nothing.
use Rattle.std.specs.Prelude.{ℕ, List, eqb}
use Rattle.refusals.specs.Numbers.{refuse}
use Rattle.model.specs.declared.Session.{Session}
use Rattle.model.specs.Session.{entry, unmapped, short}
use Rattle.model.specs.Maps.{bad_in_block}

-- 9, 25 and 21, by the logical slice that is asked for.
abbrev pub slice_refusal : (maps : List ℕ) → Session → (i σ tape position : ℕ) → ℕ
slice_refusal maps s i σ tape position =
    refuse (bad_in_block maps s i σ) 9
    (refuse (eqb (entry maps s.geometry i σ) unmapped) 25
    (refuse (short tape position 16) 21
    0))
