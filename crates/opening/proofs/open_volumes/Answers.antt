-- `opening::open_volumes` meets its contract. Assumes nothing.
use mathlib.Core.Path.{refl, sym}
use native.Mathlib.Omega.{arith}
use Rattle.refusals.specs.declared.Refusal.TheVariants as refusal
use Rattle.model.specs.Geometry.{cell_of, header_of}
use Rattle.model.specs.Session.{no_keys}
use Rattle.model.specs.Opening.{no_maps, no_owners}
use Rattle.model.proofs.Bounds.{cell_fits}
use Rattle.sealing.proofs.Cells.{found_at, found_below, found_none}
use Rattle.opening.proofs.Outcomes.{with_cell_none, with_cell_broken, with_cell_served, leaves_refused, leaves_by}
use Rattle.opening.proofs.open_volumes.Goals as goal

-- ---- the needs
pub first_cell-requires : goal.first_cell-requires
first_cell-requires c =
    (omega (arith, cell_fits c.args.g c.requires.0 14 (omega arith), c.requires.1), c.requires.2, omega arith, refl)

pub open_chain-requires : goal.open_chain-requires
unfolding no_keys
open_chain-requires c =
    let f = c.first_cell in
    let a = c.args in
    let below = found_below a.key.now (cell_of a.device.now) f.result f.new.vmk 15 f.ensures c.in-Some.is in
    (c.requires.0, c.requires.1, omega (arith, below), f.auto.vmk, refl, refl)

pub open_maps-requires : goal.open_maps-requires
open_maps-requires c =
    let f = c.first_cell in
    let a = c.args in
    let below = found_below a.key.now (cell_of a.device.now) f.result f.new.vmk 15 f.ensures c.in-Some.is in
    (c.requires.0, c.requires.1, omega (arith, below), c.requires.3, c.requires.4)

pub returns-in-None : goal.returns-in-None
returns-in-None c =
    let f = c.first_cell in
    let a = c.args in
    let none = found_none a.key.now (cell_of a.device.now) f.result f.new.vmk 15 f.ensures c.in-None.is in
    leaves_refused (no_maps a.g) (no_owners a.g) refusal.NoCell (with_cell_none a.g a.perm.now (header_of a.g a.device.now) none)
    c.requires.3 c.requires.4 c.refused.ensures

pub returns-in-Err : goal.returns-in-Err
returns-in-Err c =
    let f = c.first_cell in
    let a = c.args in
    let at = found_at a.key.now (cell_of a.device.now) f.result f.new.vmk 15 f.ensures c.in-Some.is in
    leaves_refused (no_maps a.g) (no_owners a.g) c.in-Err.r
    (with_cell_broken a.g a.perm.now (header_of a.g a.device.now) c.in-Some.k f.new.vmk at c.in-Err.r _ _ c.in-Err.ensures)
    c.requires.3 c.requires.4 c.refused-in-Err.ensures

pub returns-in_default : goal.returns-in_default
returns-in_default c =
    let f = c.first_cell in
    let a = c.args in
    let at = found_at a.key.now (cell_of a.device.now) f.result f.new.vmk 15 f.ensures c.in-Some.is in
    leaves_by
    (sym (with_cell_served a.g a.perm.now (header_of a.g a.device.now) c.in-Some.k f.new.vmk at _ _ c.in_default.ensures))
    _ _ _ _ c.open_maps.ensures
