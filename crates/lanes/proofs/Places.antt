-- The words of a lane where they stand. Assumes nothing.
use mathlib.Core.Path.{◌≡◌, refl, sym, ap, ◌∙◌}
use mathlib.Core.List.{List, [], ◌++◌}
use Prim.Native.Nat.{ℕ, zero, suc, ◌+◌, ◌*◌, ◌/◌, ◌%◌, ◌<◌}
use native.Mathlib.Nat.{add-zero}
use native.Mathlib.Omega.{arith}
use lib.ListN.{get_or, drop}
use lib.Seq.{get_or-drop}
use Rattle.lanes.specs.Lanes.{row_at, lane_at}

-- Word c of a row.
row_word : (s : List ℕ) (at c : ℕ) (rest : List ℕ) → c < 8 → get_or (row_at s at ++ rest) c 0 ≡ get_or s (at + 16 * c) 0
row_word s at zero rest h = ap (λ (k : ℕ). get_or s k 0) (sym (add-zero at))
row_word s at (suc zero) rest h = refl
row_word s at (suc (suc zero)) rest h = refl
row_word s at (suc (suc (suc zero))) rest h = refl
row_word s at (suc (suc (suc (suc zero)))) rest h = refl
row_word s at (suc (suc (suc (suc (suc zero))))) rest h = refl
row_word s at (suc (suc (suc (suc (suc (suc zero)))))) rest h = refl
row_word s at (suc (suc (suc (suc (suc (suc (suc zero))))))) rest h = refl
row_word s at (suc (suc (suc (suc (suc (suc (suc (suc c)))))))) rest h = absurd (omega arith)

-- Word c of row r of lane j.
lane_row : (s : List ℕ) (j r c : ℕ) → r < 4 → c < 8 → get_or (drop (8 * r) (lane_at s j)) c 0 ≡ get_or s (j + 128 * r + 16 * c) 0
unfolding lane_at
lane_row s j zero c h l = rw add-zero (row_word s j c (drop 8 (lane_at s j)) l)
lane_row s j (suc zero) c h l = row_word s (j + 128) c (drop 16 (lane_at s j)) l
lane_row s j (suc (suc zero)) c h l = row_word s (j + 256) c (drop 24 (lane_at s j)) l
lane_row s j (suc (suc (suc zero))) c h l = row_word s (j + 384) c [] l
lane_row s j (suc (suc (suc (suc r)))) c h l = absurd (omega arith)

-- Word i of lane j stands at 16 × i + j.
pub lane_word : (s : List ℕ) (j i : ℕ) → i < 32 → get_or (lane_at s j) i 0 ≡ get_or s (16 * i + j) 0
lane_word s j i h =
    let e : 8 * (i / 8) + i % 8 ≡ i = omega arith in
    let f : j + 128 * (i / 8) + 16 * (i % 8) ≡ 16 * i + j = omega arith in
    ap (λ (k : ℕ). get_or (lane_at s j) k 0) (sym e)
    ∙ sym (get_or-drop (8 * (i / 8)) (lane_at s j) (i % 8) 0)
    ∙ lane_row s j (i / 8) (i % 8) (omega arith) (omega arith)
    ∙ ap (λ (k : ℕ). get_or s k 0) f
