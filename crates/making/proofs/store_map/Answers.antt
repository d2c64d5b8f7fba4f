-- `making::store_map` meets its contract: a row of no entry is lent. Assumes nothing.
use mathlib.Core.Path.{ap, ap₂, ◌∙◌}
use mathlib.Core.List.{List, []}
use Prim.Native.Nat.{ℕ, ◌+◌}
use native.Mathlib.Omega.{arith}
use Rattle.model.specs.Parts.{overlay}
use Rattle.model.specs.Geometry.{map_start}
use Rattle.model.specs.Format.{drawn_vek, map_iv_at}
use Rattle.mapping.specs.Rows.{row_bytes}
use Rattle.mapping.proofs.Rows.{row_bytes_none}
use Rattle.making.proofs.Draws.{ivs_end, drawn_small}
use Rattle.making.proofs.store_map.Goals as goal

pub overflow_add-at : goal.overflow_add-at
overflow_add-at c = omega (arith, c.header_iv_at-at.ensures, ivs_end c.requires.0)

pub store_maps-requires : goal.store_maps-requires
store_maps-requires c =
    let d = c.requires.0 in (
      d.allowed,
      c.vek_in-vek.ensures.1,
      omega (arith, drawn_small d),
      omega (arith, c.header_iv_at-at.ensures, ivs_end d),
      c.requires.1,
    )

pub returns : goal.returns
returns c =
    let a = c.args in
    let at = map_start a.g a.i in
    c.store_maps.ensures
    ∙ ap₂ (λ (key : List ℕ) (from : ℕ). overlay a.device.now at (row_bytes [] a.g key a.drawn.now from))
    c.vek_in-vek.ensures.0 (ap (λ (n : ℕ). n + 12) c.header_iv_at-at.ensures)
    ∙ ap (overlay a.device.now at)
    (row_bytes_none a.g (drawn_vek a.g a.drawn.now a.i) a.drawn.now (map_iv_at a.g a.n a.i) a.i
    (drawn_small c.requires.0).1)
