-- `reading::decipher` meets its contract. Assumes nothing.
use Prim.Native.Nat.{ℕ}
use mathlib.Core.Path.{sym, ap, ap₂, ◌∙◌}
use native.Mathlib.Omega.{arith}
use lib.ListN.{replicate}
use Rattle.ctr_spec.specs.CounterMode.{ctr}
use Rattle.model.proofs.Parts.{part_lent}
use Rattle.model.proofs.Blocks.{deciphered_mapped, deciphered_unmapped}
use Rattle.reading.proofs.Outcomes.{iv_inside, block_inside}
use Rattle.reading.proofs.decipher.Goals as goal

pub overflow_add-iv : goal.overflow_add-iv
overflow_add-iv c = omega (arith, iv_inside c.requires.0 c.requires.1 c.if-entry-g.true c.requires.3 c.iv_start-iv.ensures)

pub slice_bounds-ctr_into-end : goal.slice_bounds-ctr_into-end
slice_bounds-ctr_into-end c = iv_inside c.requires.0 c.requires.1 c.if-entry-g.true c.requires.3 c.iv_start-iv.ensures

pub overflow_add-at : goal.overflow_add-at
overflow_add-at c = omega (arith, block_inside c.requires.0 c.requires.1 c.if-entry-g.true c.requires.3 c.block_start-at.ensures)

pub slice_bounds-ctr_into-end-then-entry-g : goal.slice_bounds-ctr_into-end-then-entry-g
slice_bounds-ctr_into-end-then-entry-g c = block_inside c.requires.0 c.requires.1 c.if-entry-g.true c.requires.3 c.block_start-at.ensures

pub returns-then-entry-g : goal.returns-then-entry-g
returns-then-entry-g c =
    let a = c.args in
    c.ctr_into.ensures
    ∙ ap₂ (ctr a.key.now) (part_lent a.device.now c.iv_start-iv.result 16 c.iv_start-iv.ensures)
    (part_lent a.device.now c.block_start-at.result a.g.b c.block_start-at.ensures)
    ∙ sym (deciphered_mapped a.g a.key.now a.entry a.j a.device.now c.if-entry-g.true)

pub returns-else-entry-g : goal.returns-else-entry-g
returns-else-entry-g c =
    let a = c.args in
    c.fill.ensures.after (λ y h. h)
    ∙ ap (λ (n : ℕ). replicate n 0) c.requires.4
    ∙ sym (deciphered_unmapped a.g a.key.now a.entry a.j a.device.now c.if-entry-g.false)
