-- `shuffling::set_in_order` meets its contract. After i turns the first i elements are in order. Assumes nothing.
use Rattle.std.proofs.Common.{◌≡◌, refl, sym, ap, ◌∙◌, add-one, arith, length}
use Rattle.std.proofs.Math.Seq.{take-length, take-suc-set}
use Rattle.model.specs.Parts.{joined}
use Rattle.model.specs.Shuffle.{in_order}
use Rattle.shuffling.proofs.set_in_order.Goals as goal

pub loop-i-init : goal.loop-i-init
unfolding in_order joined
loop-i-init c = refl

pub loop-i-preserved : goal.loop-i-preserved
unfolding in_order joined
loop-i-preserved c = let l = c.loop-i in rw (add-one l.i) (take-suc-set l.list l.i l.i (omega arith) ∙ rw l.invariant refl)

pub returns : goal.returns
returns c =
    let l = c.loop-i in
    let e : l.i ≡ length l.list = omega arith in
    sym (take-length l.list) ∙ rw e at l.invariant ∙ ap in_order l.auto.list
