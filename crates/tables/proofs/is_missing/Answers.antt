-- `tables::is_missing` meets its contract. Assumes nothing.
use mathlib.Core.Path.{ap, ◌∙◌}
use mathlib.Core.List.{List}
use Prim.Native.Nat.{ℕ}
use lib.Dec.{eqb}
use lib.ListN.{take}
use Rattle.std.specs.List.{list_any}
use Rattle.tables.proofs.Flags.{flagged-missing}
use Rattle.tables.proofs.is_missing.Goals as goal

pub returns : goal.returns
returns c =
    c.contains.ensures.value
    ∙ ap (λ (named : List ℕ). list_any (λ y. eqb y 0) (take c.args.p named)) c.flag_named.ensures
    ∙ flagged-missing c.args.perm.now 4096 c.args.p c.requires
