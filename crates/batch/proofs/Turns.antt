-- The rounds of n lanes one after the other. Assumes nothing.
use mathlib.Core.Path.{◌≡◌, refl, ap, ◌∙◌}
use mathlib.Core.List.{List}
use Prim.Native.Nat.{ℕ, suc, ◌+◌, ◌-◌, ◌≤◌}
use native.Mathlib.Omega.{arith}
use Rattle.turn.specs.Turn.{turned_of}
use Rattle.lanes.specs.Lanes.{sub_rows, each_lane}
use Rattle.planes.specs.Rounds.{added_lane, mixed_lane, moved_lane, key_lane}
use Rattle.batch.specs.Batch.{rounds_lanes, encrypt_lanes}

-- Before the first round.
pub rounds_none : (k : List ℕ) (n : ℕ) (s : List ℕ) → s ≡ rounds_lanes k n s (1 - 1)
unfolding rounds_lanes
rounds_none k n s = refl

-- One round more.
pub rounds_more : (k : List ℕ) (n r : ℕ) (s₀ s t u b : List ℕ) → 1 ≤ r → s ≡ rounds_lanes k n s₀ (r - 1) → t ≡ sub_rows 4 n s
    → b ≡ key_lane k r → u ≡ each_lane (mixed_lane b) n t → u ≡ rounds_lanes k n s₀ (r + 1 - 1)
unfolding rounds_lanes
rounds_more k n r s₀ s t u b l e p h q =
    let c : r + 1 - 1 ≡ suc (r - 1) = omega arith in
    let d : r ≡ suc (r - 1) = omega arith in
    rw c
    (q ∙ ap (λ (x : List ℕ). each_lane (mixed_lane x) n t) (h ∙ ap (key_lane k) d)
    ∙ ap (each_lane (mixed_lane (key_lane k (suc (r - 1)))) n) (p ∙ ap (sub_rows 4 n) e))

-- After the last round.
pub encrypted : (k : List ℕ) (n r : ℕ) (s a b c d e f x y : List ℕ) → r ≡ 14 → a ≡ each_lane turned_of n s → x ≡ key_lane k 0
    → b ≡ each_lane (added_lane x) n a → c ≡ rounds_lanes k n b (r - 1) → d ≡ sub_rows 4 n c → y ≡ key_lane k 14
    → e ≡ each_lane (moved_lane y) n d → f ≡ each_lane turned_of n e → f ≡ encrypt_lanes k n s
unfolding encrypt_lanes
encrypted k n r s a b c d e f x y m p₁ p₂ p₃ p₄ p₅ p₆ p₇ p₈ =
    let l : r - 1 ≡ 13 = omega arith in
    cc (ap (rounds_lanes k n b) l)
