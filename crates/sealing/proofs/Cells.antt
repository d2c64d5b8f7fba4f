-- Laws of opening key cells. Assumes nothing.
use Prim.Native.Nat.{ℕ, zero, suc, ◌+◌, ◌-◌, ◌≤◌, ◌<◌}
use mathlib.Core.Path.{◌≡◌, refl, sym, ap, ap₂, ◌∙◌}
use mathlib.Core.List.{List}
use mathlib.Core.Bool.{Bool, true, false, false≢true}
use native.Mathlib.Numerals.{add-one}
use native.Mathlib.Omega.{arith}
use Rattle.std.specs.Prelude.{Option, None, Some}
use Rattle.gcm_spec.specs.Gcm.{Opened, Text, WrongTag, gcm_tag, gcm_open, same, text_if}
use Rattle.gcm.specs.Call.{opened_over}
use Rattle.gcm_spec.proofs.Same.{open_test}
use Rattle.model.specs.Parts.{part}
use Rattle.model.specs.Opening.{Cell, At, NoCell, open_cell, or_next, first_cell}
use Rattle.model.proofs.Parts.{part_lent, part_part}
use Rattle.sealing.specs.Cells.{is_text, CellFound}

-- ---- parts

-- A part that is lent, within a longer part.
pub part_inner : (s : List ℕ) (at w x n from : ℕ) → from ≡ at + x → x + n ≤ w → part from (from + n - from) s ≡ part x n (part at w s)
part_inner s at w x n from e h = part_lent s from n e ∙ sym (part_part s at w x n h)

-- ---- opening

module _ (key aad : List ℕ) where
  is_text_if : (t : Bool) (text : List ℕ) → t ≡ is_text (text_if t text)
  is_text_if true text = refl
  is_text_if false text = refl

  -- What opening leaves, of equal parts.
  pub open_parts : {iv iv' c c' tag tag' out : List ℕ} {r : Bool} (old : List ℕ) → iv ≡ iv' → c ≡ c' → tag ≡ tag'
      → r ≡ same (gcm_tag key iv aad c) tag → out ≡ opened_over (gcm_open key iv aad c tag) old
      → (r ≡ is_text (gcm_open key iv' aad c' tag')) × (out ≡ opened_over (gcm_open key iv' aad c' tag') old)
  open_parts {iv} {iv'} {c} {c'} {tag} {tag'} {out} {r} old ei ec et er eo =
      let e : gcm_open key iv aad c tag ≡ gcm_open key iv' aad c' tag' =
      ap₂ (λ (x y : List ℕ). gcm_open key x aad y tag) ei ec ∙ ap (gcm_open key iv' aad c') et in
      let t : r ≡ is_text (gcm_open key iv aad c tag) = rw (open_test key iv aad c tag er refl) (is_text_if r _) in
      (t ∙ ap is_text e, eo ∙ ap (λ (o : Opened). opened_over o old) e)

-- ---- cells

or_next-opens : (o : Opened) (i : ℕ) (rest : Cell) (old vmk : List ℕ) → is_text o ≡ true → vmk ≡ opened_over o old
    → CellFound (or_next o i rest) (Some i) vmk
or_next-opens (Text text) i rest old vmk t e = (refl, e)
or_next-opens WrongTag i rest old vmk t e = absurd (false≢true t)

or_next_passed : (o : Opened) (i : ℕ) (rest : Cell) → is_text o ≡ false → or_next o i rest ≡ rest
or_next_passed (Text text) i rest t = absurd (false≢true (sym t))
or_next_passed WrongTag i rest t = refl

module _ (key : List ℕ) (cell : ℕ → List ℕ) where
  first_cell_next : (n i : ℕ) → i < n
      → first_cell key cell (n - i) i ≡ or_next (open_cell key i (cell i)) i (first_cell key cell (n - (i + 1)) (i + 1))
  unfolding first_cell
  first_cell_next n i l =
      let k : n - i ≡ suc (n - (i + 1)) = omega arith in
      ap (λ (m : ℕ). first_cell key cell m i) k
      ∙ ap (λ (j : ℕ). or_next (open_cell key i (cell i)) i (first_cell key cell (n - (i + 1)) j)) (sym (add-one i))

  pub first_cell_opens : (n i : ℕ) (old vmk : List ℕ) → i < n → is_text (open_cell key i (cell i)) ≡ true
      → vmk ≡ opened_over (open_cell key i (cell i)) old → CellFound (first_cell key cell (n - i) i) (Some i) vmk
  first_cell_opens n i old vmk l t e = rw (first_cell_next n i l) (or_next-opens (open_cell key i (cell i)) i _ old vmk t e)

  pub first_cell_passes : (n i : ℕ) → i < n → is_text (open_cell key i (cell i)) ≡ false
      → first_cell key cell (n - i) i ≡ first_cell key cell (n - (i + 1)) (i + 1)
  first_cell_passes n i l t = first_cell_next n i l ∙ or_next_passed (open_cell key i (cell i)) i _ t

  pub first_cell_done : (n i : ℕ) → n ≡ 0 → first_cell key cell n i ≡ NoCell
  unfolding first_cell
  first_cell_done n i e = rw e

-- ---- what was found

cell_at : (o : Cell) (r : Option ℕ) (vmk : List ℕ) {k : ℕ} → CellFound o r vmk → r ≡ Some k → o ≡ At k vmk
cell_at (At j key) r vmk {k} (e, q) h = let same : j ≡ k = cc in ap₂ At same (sym q)
cell_at NoCell r vmk e h = absurd (let z : ◌≡◌ {A = ℕ} 0 1 = cc in omega arith)

cell_none : (o : Cell) (r : Option ℕ) (vmk : List ℕ) → CellFound o r vmk → r ≡ None → o ≡ NoCell
cell_none (At j key) r vmk (e, q) h = absurd (let z : ◌≡◌ {A = ℕ} 0 1 = cc in omega arith)
cell_none NoCell r vmk e h = refl

module _ (key : List ℕ) (cell : ℕ → List ℕ) where
  first_cell_below : (left i k : ℕ) (vmk : List ℕ) → first_cell key cell left i ≡ At k vmk → k < i + left
  unfolding first_cell
  first_cell_below zero i k vmk e = absurd (let z : ◌≡◌ {A = ℕ} 0 1 = cc in omega arith)
  first_cell_below (suc left) i k vmk e = by_cell (open_cell key i (cell i)) e (first_cell_below left (suc i) k vmk)
    where
      by_cell : (o : Opened) → or_next o i (first_cell key cell left (suc i)) ≡ At k vmk
          → (first_cell key cell left (suc i) ≡ At k vmk → k < suc i + left)
          → k < i + suc left
      by_cell (Text v) q ih = let same : i ≡ k = cc in omega arith
      by_cell WrongTag q ih = omega (arith, ih q)

  module _ (r : Option ℕ) (vmk : List ℕ) (n : ℕ) (f : CellFound (first_cell key cell n 0) r vmk) where
    pub found_at : {k : ℕ} → r ≡ Some k → first_cell key cell n 0 ≡ At k vmk
    found_at h = cell_at (first_cell key cell n 0) r vmk f h

    pub found_below : {k : ℕ} → r ≡ Some k → k < n
    found_below {k} h = omega (arith, first_cell_below n 0 k vmk (found_at h))

    pub found_none : r ≡ None → first_cell key cell n 0 ≡ NoCell
    found_none h = cell_none (first_cell key cell n 0) r vmk f h
