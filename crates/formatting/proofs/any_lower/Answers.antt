-- `formatting::any_lower` meets its contract. The loop's invariant: none of the keys tried opens a cell below its own. Assumes nothing.
use mathlib.Core.Path.{◌≡◌, refl, sym, ap, ◌∙◌}
use mathlib.Core.Bool.{true, false, false≢true}
use mathlib.Core.List.{List}
use Prim.Native.Nat.{ℕ, ◌+◌, ◌<◌}
use native.Mathlib.Omega.{arith}
use Rattle.std.specs.Prelude.{Option}
use Rattle.std.specs.Option.{is_some}
use Rattle.model.specs.Geometry.{cell_of}
use Rattle.model.specs.Session.{key_in}
use Rattle.model.specs.Opening.{Cell, At, NoCell, first_cell}
use Rattle.model.specs.Format.{lower_opens}
use Rattle.model.proofs.Cells.{lower_opens_found, lower_opens_passes}
use Rattle.sealing.specs.Cells.{CellFound}
use Rattle.formatting.proofs.any_lower.Goals as goal

module _ (keys : List ℕ) (cell : ℕ → List ℕ) (i : ℕ) (key : List ℕ) (k : key ≡ key_in keys i) where
  -- What a key opens, said of the key that stands among the keys.
  tried : {o : Cell} → first_cell key cell i 0 ≡ o → first_cell (key_in keys i) cell i 0 ≡ o
  tried e = ap (λ (key : List ℕ). first_cell key cell i 0) (sym k) ∙ e

  pub cell_opens : (n : ℕ) → i < n → (o : Cell) (r : Option ℕ) (vmk : List ℕ) → first_cell key cell i 0 ≡ o → CellFound o r vmk
      → is_some r ≡ true → lower_opens keys cell n ≡ true
  cell_opens n l (At j v) r vmk e f t = lower_opens_found keys cell n i j v l (tried e)
  cell_opens n l NoCell r vmk e f t = absurd (false≢true (sym (ap is_some f) ∙ t))

  pub none_opens : lower_opens keys cell i ≡ false → (o : Cell) (r : Option ℕ) (vmk : List ℕ) → first_cell key cell i 0 ≡ o → CellFound o r vmk
      → is_some r ≡ false → lower_opens keys cell (i + 1) ≡ false
  none_opens before (At j v) r vmk e f t = absurd (false≢true (sym t ∙ ap is_some f.0))
  none_opens before NoCell r vmk e f t = lower_opens_passes keys cell i before (tried e)

pub loop-i-init : goal.loop-i-init
unfolding lower_opens
loop-i-init c = refl

pub returns-then-is_some : goal.returns-then-is_some
returns-then-is_some c =
    let a = c.args in
    let f = c.first_cell-found in
    sym
    (cell_opens a.keys.now (cell_of a.cells.now) c.loop-i.i _ c.key_in-key.ensures.0 a.n (omega arith) _ f.result f.new.vmk refl f.ensures
    (sym c.is_some.ensures ∙ c.if-is_some.true))

pub loop-i-preserved : goal.loop-i-preserved
loop-i-preserved c =
    let a = c.args in
    let f = c.first_cell-found in
    none_opens a.keys.now (cell_of a.cells.now) c.loop-i.i _ c.key_in-key.ensures.0 c.loop-i.invariant _ f.result f.new.vmk refl f.ensures
    (sym c.is_some.ensures ∙ c.if-is_some.false)

pub returns : goal.returns
returns c =
    let l = c.loop-i in
    let a = c.args in
    let all : l.i ≡ a.n = omega arith in
    sym (rw all at l.invariant)
