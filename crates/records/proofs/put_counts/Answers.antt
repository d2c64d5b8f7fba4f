-- `records::put_counts` meets its contract. After i turns the first i counts stand in the struct. Assumes nothing.
use mathlib.Core.Path.{refl, sym}
use mathlib.Core.List.{[]}
use native.Mathlib.Omega.{arith}
use borrow.Author.Rules.{rules}
use Rattle.model.specs.Parts.{joined}
use Rattle.places.proofs.Parts.{overlay_none}
use Rattle.records.specs.Numbers.{numbers_bytes}
use Rattle.records.proofs.Structs.{overlay_count}
use Rattle.records.proofs.put_counts.Goals as goal

pub loop-i-init : goal.loop-i-init
unfolding numbers_bytes joined
loop-i-init c = (refl, sym (overlay_none _ 528 (λ j. [])))

pub loop-i-preserved : goal.loop-i-preserved
loop-i-preserved c =
    let l = c.loop-i in
    let a = c.args in
    (search rules, rw (c.put_eight.ensures, l.invariant.1) (overlay_count a.r.now a.counts.now l.i (omega arith)))
