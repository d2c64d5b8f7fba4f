-- A turn of each loop. Assumes nothing.
use mathlib.Core.Path.{◌≡◌, refl, sym, ap, ◌∙◌}
use mathlib.Core.List.{List}
use Prim.Native.Nat.{ℕ, ◌+◌, ◌*◌}
use native.Mathlib.Numerals.{add-one}
use Rattle.circuit.specs.Circuit.{sub_words}
use Rattle.lanes.specs.Lanes.{row_at, put_row, lane_at, put_lane, each_row, sub_rows, each_lane}

-- Before the first turn of a loop over lanes.
pub lanes_none : (f : List ℕ → List ℕ) (s : List ℕ) → s ≡ each_lane f 0 s
unfolding each_lane
lanes_none f s = refl

-- One lane more.
pub lanes_more : (f : List ℕ → List ℕ) (j : ℕ) (s₀ s s' x y : List ℕ) → s ≡ each_lane f j s₀ → x ≡ lane_at s j → y ≡ f x → s' ≡ put_lane s j y
    → s' ≡ each_lane f (j + 1) s₀
unfolding each_lane
lanes_more f j s₀ s s' x y e p q h =
    h ∙ ap (put_lane s j) (q ∙ ap f p) ∙ ap (λ (t : List ℕ). put_lane t j (f (lane_at t j))) e
    ∙ ap (λ (i : ℕ). each_lane f i s₀) (sym (add-one j))

-- Before the first row of SUBBYTES.
pub rows_none : (n : ℕ) (s : List ℕ) → s ≡ sub_rows 0 n s
unfolding sub_rows
rows_none n s = refl

-- Before the first lane of a row.
pub row_none : (f : List ℕ → List ℕ) (base : ℕ) (s : List ℕ) → s ≡ each_row f base 0 s
unfolding each_row
row_none f base s = refl

-- One lane more of a row.
pub row_more : (f : List ℕ → List ℕ) (base j : ℕ) (s₀ s s' x y : List ℕ) → s ≡ each_row f base j s₀ → x ≡ row_at s (base + j) → y ≡ f x
    → s' ≡ put_row s (base + j) y → s' ≡ each_row f base (j + 1) s₀
unfolding each_row
row_more f base j s₀ s s' x y e p q h =
    h ∙ ap (put_row s (base + j)) (q ∙ ap f p) ∙ ap (λ (t : List ℕ). put_row t (base + j) (f (row_at t (base + j)))) e
    ∙ ap (λ (i : ℕ). each_row f base i s₀) (sym (add-one j))

-- One row more of SUBBYTES.
pub rows_more : (r n j : ℕ) (s₀ s s' : List ℕ) → j ≡ n → s ≡ sub_rows r n s₀ → s' ≡ each_row sub_words (128 * r) j s → s' ≡ sub_rows (r + 1) n s₀
unfolding sub_rows
rows_more r n j s₀ s s' e h k =
    k ∙ ap (λ (i : ℕ). each_row sub_words (128 * r) i s) e ∙ ap (each_row sub_words (128 * r) n) h
    ∙ ap (λ (i : ℕ). sub_rows i n s₀) (sym (add-one r))

-- After the last row of SUBBYTES.
pub rows_done : (r rows n : ℕ) (s₀ s : List ℕ) → r ≡ rows → s ≡ sub_rows r n s₀ → s ≡ sub_rows rows n s₀
rows_done r rows n s₀ s e h = h ∙ ap (λ (i : ℕ). sub_rows i n s₀) e
