-- `places::iv_start` meets its contract. Assumes nothing.
use mathlib.Core.Path.{ap}
use Prim.Native.Nat.{ℕ, ◌+◌, ◌*◌}
use native.Mathlib.Omega.{arith}
use Rattle.model.specs.Geometry.{iv_start}
use Rattle.model.proofs.Bounds.{device_length_small, iv_fits}
use Rattle.places.proofs.iv_start.Goals as goal

pub overflow_add-result : goal.overflow_add-result
unfolding iv_start
overflow_add-result c =
    let a = c.args in
    let p = c.requires in
    omega (arith, device_length_small a.g p.0, iv_fits a.g p.0 a.slice a.j p.1 p.2, c.slice_start.ensures)

pub returns : goal.returns
unfolding iv_start
returns c = ap (λ (x : ℕ). x + 16 * c.args.j) c.slice_start.ensures
