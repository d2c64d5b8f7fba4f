-- `reading::find` meets its contract. Assumes nothing.
use Prim.Native.Nat.{ℕ}
use mathlib.Core.Path.{sym, ap, ◌∙◌}
use native.Mathlib.Omega.{arith}
use Rattle.model.specs.Geometry.{block_start}
use Rattle.model.specs.Session.{offset_of}
use Rattle.model.proofs.Parts.{part_lent}
use Rattle.model.proofs.Requests.{asked-slot}
use Rattle.model.proofs.Bounds.{offset_of_lt}
use Rattle.reading.proofs.Outcomes.{served, ready, block_inside, find_refused, find_mapped, find_unmapped}
use Rattle.reading.proofs.find.Goals as goal

pub returns-in-Err : goal.returns-in-Err
returns-in-Err c = sym (find_refused _ _ _ _ _ _ c.read_refusal-refused.ensures c.in-Err.is)

pub nonzero_div-address : goal.nonzero_div-address
nonzero_div-address c = (ready c.read_refusal-refused.ensures c.in_default.is).stands.usable.allowed.slice_least

pub entry_at-entry-requires : goal.entry_at-entry-requires
entry_at-entry-requires c = let r = ready c.read_refusal-refused.ensures c.in_default.is in asked-slot r.stands r.asked

pub nonzero_rem-address : goal.nonzero_rem-address
nonzero_rem-address c = (ready c.read_refusal-refused.ensures c.in_default.is).stands.usable.allowed.slice_least

pub block_start-at-requires : goal.block_start-at-requires
block_start-at-requires c =
    let a = c.args in
    let ok = (ready c.read_refusal-refused.ensures c.in_default.is).stands.usable.allowed in
    (ok, c.if-entry-g.true, offset_of_lt a.session.geometry ok a.address)

pub overflow_add-result : goal.overflow_add-result
overflow_add-result c =
    let a = c.args in
    let s = (ready c.read_refusal-refused.ensures c.in_default.is).stands in
    let ok = s.usable.allowed in
    omega (arith, block_inside ok s.long c.if-entry-g.true (offset_of_lt a.session.geometry ok a.address) c.block_start-at.ensures)

pub slice_bounds-result-end-then-entry-g : goal.slice_bounds-result-end-then-entry-g
slice_bounds-result-end-then-entry-g c =
    let a = c.args in
    let s = (ready c.read_refusal-refused.ensures c.in_default.is).stands in
    let ok = s.usable.allowed in
    block_inside ok s.long c.if-entry-g.true (offset_of_lt a.session.geometry ok a.address) c.block_start-at.ensures

pub returns-then-entry-g : goal.returns-then-entry-g
returns-then-entry-g c =
    let a = c.args in
    let g = a.session.geometry in
    let e = c.entry_at-entry.ensures in
    part_lent a.device.now c.block_start-at.result g.b
    (c.block_start-at.ensures ∙ ap (λ (ψ : ℕ). block_start g ψ (offset_of g a.address)) e)
    ∙ sym (find_mapped _ _ _ _ _ _ (served c.read_refusal-refused.ensures c.in_default.is) (rw e at c.if-entry-g.true))

pub returns-else-entry-g : goal.returns-else-entry-g
returns-else-entry-g c =
    sym (find_unmapped _ _ _ _ _ _ (served c.read_refusal-refused.ensures c.in_default.is) (rw c.entry_at-entry.ensures at c.if-entry-g.false))
