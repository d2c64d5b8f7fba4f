-- `making::carry_out` meets its contract. Assumes nothing.
use mathlib.Core.Path.{sym, refl, ap, ◌∙◌}
use Prim.Native.Nat.{ℕ}
use native.Mathlib.Omega.{arith}
use Rattle.std.proofs.lemmas.Result.{err_from_is_err_and}
use Rattle.refusals.specs.Numbers.{answer_number, unless_refused}
use Rattle.refusals.proofs.Positive.{refusal_positive}
use Rattle.refusals.proofs.Refuse.{unless_refused_refused}
use Rattle.model.specs.Parts.{part, patched}
use Rattle.model.specs.Geometry.{device_length}
use Rattle.model.specs.Format.{format_need, cell_patches, header_patches, formatted}
use Rattle.model.proofs.Parts.{patched-++}
use Rattle.model.proofs.Bounds.{cell_fits}
use Rattle.making.proofs.carry_out.Goals as goal

pub returns-in_err-answer : goal.returns-in_err-answer
returns-in_err-answer c =
    let p = err_from_is_err_and c.from_residual.result c.from_residual.ensures.1 in
    rw (p.1, p.2, c.in_err-answer.was) (refl, sym (unless_refused_refused _ _ _ (refusal_positive _)))

pub bytes_at-noise-requires : goal.bytes_at-noise-requires
unfolding format_need
bytes_at-noise-requires c =
    let asked = c.requires (ap answer_number c.in_ok-answer.was) in
    omega (arith, asked.0.long, asked.2)

pub seal_cells-requires : goal.seal_cells-requires
seal_cells-requires c =
    let asked = c.requires (ap answer_number c.in_ok-answer.was) in
    (asked.0, omega (arith, cell_fits c.args.g asked.0.allowed 14 (omega arith), asked.2))

pub returns : goal.returns
unfolding formatted unless_refused
returns c =
    let a = c.args in
    let asked = c.requires (ap answer_number c.in_ok-answer.was) in
    let cells = cell_patches a.g a.n a.keys.now a.drawn.now a.n in
    let headers = header_patches a.g a.n a.counts.now a.drawn.now a.n in
    rw c.in_ok-answer.was (
      refl,
      c.seal_headers.ensures
          ∙ ap (patched headers)
          (c.seal_cells.ensures
          ∙ ap (patched cells)
          (c.copy.ensures ∙ c.bytes_at-noise.ensures.0 ∙ ap (λ (n : ℕ). part 0 n a.drawn.now) asked.2))
          ∙ sym (patched-++ cells headers (part 0 (device_length a.g) a.drawn.now)),
    )
