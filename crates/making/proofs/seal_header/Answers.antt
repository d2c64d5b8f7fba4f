-- `making::seal_header` meets its contract. Assumes nothing.
use mathlib.Core.Path.{ap, ◌∙◌}
use Prim.Native.Nat.{ℕ, ◌+◌, ◌≤◌}
use native.Mathlib.Nat.{mul-le-mul_left}
use native.Mathlib.Omega.{arith}
use lib.ListN.{length}
use Rattle.model.specs.Parts.{part}
use Rattle.model.specs.Geometry.{map_blocks}
use Rattle.model.proofs.Bounds.{b_bounds, header_fits}
use Rattle.model.proofs.Drawn.{made_text_length}
use Rattle.making.proofs.Draws.{ivs_end}
use Rattle.making.proofs.Made.{sealed-same}
use Rattle.making.proofs.seal_header.Goals as goal

pub bytes_at-iv-requires : goal.bytes_at-iv-requires
bytes_at-iv-requires c = omega (arith, c.header_iv_at.ensures, ivs_end c.requires.0)

pub store_sealed-requires : goal.store_sealed-requires
store_sealed-requires c =
    let a = c.args in
    let d = c.requires.0 in
    let g = a.g in
    let textl = ap length c.header_text-text.ensures ∙ made_text_length g a.n a.drawn.now d.long a.counts.now a.i d.below in
    let low : a.i ≤ 14 = omega (arith, d.below, d.most) in (
      c.vmk_in-vmk.ensures.1,
      c.bytes_at-iv.ensures.1,
      omega (arith, textl),
      omega (
        arith,
        textl,
        c.header_start-at.ensures,
        c.requires.2,
        header_fits g d.allowed a.i low,
        b_bounds g d.allowed,
        mul-le-mul_left {m = 1} {n = 1 + map_blocks g} g.b (omega arith),
      ),
    )

pub returns : goal.returns
returns c =
    let a = c.args in
    c.store_sealed.ensures
    ∙ sealed-same a.device.now (16 + a.i) c.header_start-at.ensures c.vmk_in-vmk.ensures.0
    (c.bytes_at-iv.ensures.0 ∙ ap (λ (at : ℕ). part at 12 a.drawn.now) c.header_iv_at.ensures)
    c.header_text-text.ensures
