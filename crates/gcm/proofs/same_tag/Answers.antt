-- `gcm::same_tag` meets its contract. After i turns d is 0 where the first i bytes are the same. Assumes nothing.
use mathlib.Core.Path.{refl, ap₂, ◌∙◌}
use native.Mathlib.Omega.{arith}
use lib.Seq.{take_all}
use Rattle.gcm_spec.specs.Gcm.{same}
use Rattle.gcm_spec.proofs.Same.{same_turn}
use Rattle.gcm.proofs.same_tag.Goals as goal

pub loop-i-init : goal.loop-i-init
unfolding same
loop-i-init c = refl

pub loop-i-preserved : goal.loop-i-preserved
loop-i-preserved c =
    let l = c.loop-i in
    let a = c.args in
    same_turn l.d l.i a.a.now a.b.now (omega arith) (omega arith) l.invariant

pub returns : goal.returns
returns c =
    let l = c.loop-i in
    let a = c.args in
    l.invariant ∙ ap₂ same (take_all l.i a.a.now (omega arith)) (take_all l.i a.b.now (omega arith))
