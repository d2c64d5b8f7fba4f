-- `mapping::map_text` meets its contract. After e turns the first e entries are stored. Assumes nothing.
use mathlib.Core.Path.{sym, ap, ◌∙◌}
use mathlib.Core.List.{List}
use Prim.Native.Nat.{ℕ, ◌*◌}
use native.Mathlib.Omega.{arith}
use Rattle.model.specs.Parts.{overlay}
use Rattle.model.specs.Geometry.{four_bytes}
use Rattle.mapping.specs.Rows.{row_entry}
use Rattle.places.proofs.Parts.{overlay_none}
use Rattle.mapping.proofs.Rows.{entries_few, row_text_turn, row_text_done}
use Rattle.mapping.proofs.map_text.Goals as goal

pub loop-e-init : goal.loop-e-init
loop-e-init c = sym (overlay_none _ _ _)

pub overflow_mul-t : goal.overflow_mul-t
overflow_mul-t c = omega (arith, entries_few c.args.g c.requires.0 c.args.t c.requires.1 c.entries_per_block-n.ensures)

pub overflow_add-t : goal.overflow_add-t
overflow_add-t c = omega (arith, entries_few c.args.g c.requires.0 c.args.t c.requires.1 c.entries_per_block-n.ensures)

pub loop-e-preserved : goal.loop-e-preserved
loop-e-preserved c =
    let a = c.args in
    let l = c.loop-e in
    let entries : ℕ → List ℕ = row_entry a.row.now c.entries_per_block-n.result a.t in
    c.put_number.ensures
    ∙ ap (λ (x : ℕ). overlay l.buf (l.e * 4) (four_bytes x)) c.entry_in-entry.ensures
    ∙ ap (λ (b : List ℕ). overlay b (l.e * 4) (entries l.e)) l.invariant
    ∙ row_text_turn a.row.now a.t c.entries_per_block-n.result a.buf.now l.e

pub returns : goal.returns
returns c =
    let a = c.args in
    let l = c.loop-e in
    l.invariant ∙ row_text_done a.row.now a.t a.g c.requires.0 _ l.e a.buf.now c.entries_per_block-n.ensures (omega arith) c.requires.2
