-- `tables::flag_named` meets its contract. The slices from each turn on give the flags. Assumes nothing.
use mathlib.Core.Path.{◌≡◌, sym, ap, ◌∙◌}
use Prim.Native.Nat.{◌+◌}
use lib.ListN.{get_or, set, drop}
use lib.Seq.{set_out}
use Rattle.tables.specs.Flagged.{flagged}
use Rattle.tables.proofs.Flags.{flagged_turn}
use Rattle.tables.proofs.flag_named.Goals as goal
use Rattle.tables.proofs.flag_named.Goals.{then-slice-named, else-slice-named}

pub loop-slice-preserved : goal.loop-slice-preserved
loop-slice-preserved c =
    let l = c.loop-slice in
    let perm = c.args.perm.now in
    let slice = get_or perm l.slice-index 0 in
    let stored : c.if-slice-named.named ≡ set l.named slice 1 =
    elim c.if-slice-named.branch
    [ then-slice-named w ↦ w.named-is | else-slice-named w ↦ w.named-is ∙ sym (set_out l.named slice 1 w.if-slice-named.false) ] in
    ap (flagged (drop (l.slice-index + 1) perm)) stored ∙ sym (flagged_turn perm l.named l.slice-index c.loop-slice-test.true) ∙ l.invariant
