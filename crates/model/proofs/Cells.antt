-- What the search for a cell that opens comes to. Assumes nothing.
use Prim.Native.Nat.{ℕ, zero, suc, ◌+◌, ◌≤◌, ◌<◌}
use mathlib.Core.Path.{◌≡◌, refl, sym, ap, ap₂, ◌∙◌, subst}
use mathlib.Core.List.{List}
use mathlib.Core.Bool.{Bool, true, false, ◌||◌, false≢true}
use mathlib.Core.Logic.{⊎_elim}
use native.Mathlib.Omega.{arith}
use native.Mathlib.Nat.{eq-or-lt_of_le, le_of_suc-le-suc}
use native.Mathlib.Numerals.{add-one}
use Rattle.gcm_spec.specs.Gcm.{Opened, Text, WrongTag}
use Rattle.model.specs.Session.{key_in}
use Rattle.model.specs.Opening.{Cell, At, NoCell, open_cell, or_next, first_cell}
use Rattle.model.specs.Format.{found, lower_opens}

module _ (key : List ℕ) (cell : ℕ → List ℕ) where
  -- Cell i does not open.
  abbrev pub Shut : ℕ → Type 0
  Shut i = open_cell key i (cell i) ≡ WrongTag

  module _ (count : ℕ) where
    -- Cell k opens, and no lower one does.
    abbrev pub Lowest : (k : ℕ) → (vmk : List ℕ) → Type 0
    Lowest k vmk = (k < count) × (open_cell key k (cell k) ≡ Text vmk) × ((i : ℕ) → i < k → Shut i)

    -- The lowest that opens, of so many, or none.
    pub data CellsEnd : Cell → Type 0 where
      lowest : (k : ℕ) (vmk : List ℕ) → Lowest k vmk → CellsEnd (At k vmk)
      nowhere : ((i : ℕ) → i < count → Shut i) → CellsEnd NoCell

    -- From cell i on, where those before it do not open.
    first_cell_from : (left i : ℕ) → i + left ≡ count → ((j : ℕ) → j < i → Shut j) → CellsEnd (first_cell key cell left i)
    unfolding first_cell
    first_cell_from zero i q before = nowhere (λ j l. before j (omega arith))
    first_cell_from (suc left) i q before =
        go (open_cell key i (cell i)) refl
        (λ e. first_cell_from left (suc i) (omega arith) (λ j l. ⊎_elim (λ k. subst Shut (sym k) e) (before j) (eq-or-lt_of_le (le_of_suc-le-suc l))))
      where
        go : (o : Opened) → open_cell key i (cell i) ≡ o → {rest : Cell} → (Shut i → CellsEnd rest) → CellsEnd (or_next o i rest)
        go (Text vmk) e goes = lowest i vmk (omega arith, e, λ j l. before j (omega arith))
        go WrongTag e goes = goes e

    pub first_cell_ends : CellsEnd (first_cell key cell count 0)
    first_cell_ends = first_cell_from count 0 (omega arith) (λ j l. absurd (omega arith))

    cells_end_lowest : {c : Cell} → CellsEnd c → (k : ℕ) (vmk : List ℕ) → c ≡ At k vmk → Lowest k vmk
    cells_end_lowest (nowhere shut) k vmk e = let z : ◌≡◌ {A = ℕ} 0 1 = cc in absurd (omega arith)
    cells_end_lowest (lowest n v low) k vmk e =
        let n≡k : n ≡ k = cc in
        let v≡ : v ≡ vmk = cc in
        rw (← n≡k, ← v≡) low

    pub first_cell_lowest : (k : ℕ) (vmk : List ℕ) → first_cell key cell count 0 ≡ At k vmk → Lowest k vmk
    first_cell_lowest = cells_end_lowest first_cell_ends

  -- The search ends at a cell that opens, where no lower one does.
  pub first_cell_at : (k : ℕ) (vmk : List ℕ) → open_cell key k (cell k) ≡ Text vmk → ((i : ℕ) → i < k → Shut i)
      → (left i : ℕ) → i ≤ k → k < i + left → first_cell key cell left i ≡ At k vmk
  unfolding first_cell
  first_cell_at k vmk opens shut zero i lo hi = absurd (omega arith)
  first_cell_at k vmk opens shut (suc left) i lo hi =
      ⊎_elim (λ e. rw e (ap (λ (o : Opened). or_next o k (first_cell key cell left (suc k))) opens))
      (λ l. ap (λ (o : Opened). or_next o i (first_cell key cell left (suc i))) (shut i l) ∙ first_cell_at k vmk opens shut left (suc i) l (omega arith))
      (eq-or-lt_of_le lo)

-- ---- each key on the cells below its own

module _ (keys : List ℕ) (cell : ℕ → List ℕ) where
  -- One of the first n keys opens a cell below its own, or none does.
  pub data LowerEnd (n : ℕ) : Bool → Type 0 where
    some : (i j : ℕ) (vmk : List ℕ) → j < i → i < n → open_cell (key_in keys i) j (cell j) ≡ Text vmk → LowerEnd n true
    none : ((i j : ℕ) → j < i → i < n → Shut (key_in keys i) cell j) → LowerEnd n false

  pub lower_opens_ends : (n : ℕ) → LowerEnd n (lower_opens keys cell n)
  unfolding lower_opens
  lower_opens_ends zero = none (λ i j l h. absurd (omega arith))
  lower_opens_ends (suc n) = both (lower_opens_ends n) (first_cell_ends (key_in keys n) cell n)
    where
      both : {b : Bool} {c : Cell} → LowerEnd n b → CellsEnd (key_in keys n) cell n c → LowerEnd (suc n) (b || found c)
      both (some i j vmk l h e) ends = some i j vmk l (omega arith) e
      both (none shut) (lowest k vmk low) = some n k vmk low.0 (omega arith) low.1
      both (none shut) (nowhere none_here) =
          none (λ i j l h. ⊎_elim (λ e. rw e (none_here j (omega arith))) (shut i j l) (eq-or-lt_of_le (le_of_suc-le-suc h)))

  -- One that does, or none.
  pub lower_opens_true : {n : ℕ} {b : Bool} → LowerEnd n b → b ≡ true
      → (i : ℕ) × (j : ℕ) × (vmk : List ℕ) × (j < i) × (i < n) × (open_cell (key_in keys i) j (cell j) ≡ Text vmk)
  lower_opens_true (some i j vmk l h o) e = (i, j, vmk, l, h, o)
  lower_opens_true (none shut) e = absurd (false≢true e)

  pub lower_opens_false : {n : ℕ} {b : Bool} → LowerEnd n b → b ≡ false → (i j : ℕ) → j < i → i < n → Shut (key_in keys i) cell j
  lower_opens_false (some i j vmk l h o) e = absurd (false≢true (sym e))
  lower_opens_false (none shut) e = shut

  -- Where a key opens a cell below its own, one of any n keys with it does.
  pub lower_opens_found : (n i k : ℕ) (vmk : List ℕ) → i < n → first_cell (key_in keys i) cell i 0 ≡ At k vmk → lower_opens keys cell n ≡ true
  lower_opens_found n i k vmk l e = go (lower_opens_ends n)
    where
      go : {b : Bool} → LowerEnd n b → b ≡ true
      go (some j h v m q o) = refl
      go (none shut) =
          let low = first_cell_lowest (key_in keys i) cell i k vmk e in
          let opens = low.1 in
          let closed = shut i k low.0 l in
          let z : ◌≡◌ {A = ℕ} 0 1 = cc in
          absurd (omega arith)

  -- One more key that opens none.
  pub lower_opens_passes : (i : ℕ) → lower_opens keys cell i ≡ false → first_cell (key_in keys i) cell i 0 ≡ NoCell
      → lower_opens keys cell (i + 1) ≡ false
  unfolding lower_opens
  lower_opens_passes i e f = ap (lower_opens keys cell) (add-one i) ∙ ap₂ (λ (b : Bool) (c : Cell). b || found c) e f

-- ---- cells that are equal as far as they are tried

module _ (cell cell' : ℕ → List ℕ) where
  first_cell_ext : (key : List ℕ) (left i : ℕ) → ((j : ℕ) → j < i + left → cell j ≡ cell' j)
      → first_cell key cell left i ≡ first_cell key cell' left i
  unfolding first_cell
  first_cell_ext key zero i e = refl
  first_cell_ext key (suc left) i e =
      ap₂ (λ (s : List ℕ) (rest : Cell). or_next (open_cell key i s) i rest) (e i (omega arith))
      (first_cell_ext key left (suc i) (λ j l. e j (omega arith)))

  pub lower_opens_ext : (keys : List ℕ) (n : ℕ) → ((j : ℕ) → j < n → cell j ≡ cell' j) → lower_opens keys cell n ≡ lower_opens keys cell' n
  unfolding lower_opens
  lower_opens_ext keys zero e = refl
  lower_opens_ext keys (suc n) e =
      ap₂ (λ (b : Bool) (c : Cell). b || found c) (lower_opens_ext keys n (λ j l. e j (omega arith)))
      (first_cell_ext (key_in keys n) n 0 (λ j l. e j (omega arith)))
