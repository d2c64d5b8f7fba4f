-- `ordering::turn` meets its contract. Assumes nothing.
use Rattle.std.proofs.Common.{arith, refl, sym, ◌+◌, ◌∙◌}
use Rattle.std.proofs.lemmas.List.Edits.{swap_is}
use native.Mathlib.Nat.{mod-lt}
use Rattle.model.specs.Shuffle.{exchanged}
use Rattle.ordering.proofs.Limit.{limit_accepts, limit_throws}
use Rattle.ordering.proofs.turn.Goals as goal

pub returns-then-draw-chosen-gt65536 : goal.returns-then-draw-chosen-gt65536
returns-then-draw-chosen-gt65536 c = let a = c.args in rw (limit_throws a.draw (a.place + 1) (omega arith) (omega arith)) (refl, refl)

pub returns : goal.returns
unfolding exchanged
returns c =
    let a = c.args in
    rw (limit_accepts a.draw (a.place + 1) (omega arith) (omega arith))
    (refl, c.swap.ensures.after ∙ sym (swap_is _ _ _ 0 (omega arith) (omega (arith, mod-lt a.draw {m = a.place + 1} (omega arith)))))
