-- Each lane by itself goes through the cipher on a lane. Assumes nothing.
use mathlib.Core.Path.{◌≡◌, refl, ap, ◌∙◌}
use mathlib.Core.List.{List}
use Prim.Native.Nat.{ℕ, zero, suc, ◌<◌, ◌≤◌}
use lib.ListN.{length}
use Rattle.turn.specs.Turn.{turned_of}
use Rattle.turn.proofs.Laws as turn
use Rattle.lanes.specs.Lanes.{lane_at, sub_rows, sub_lane, each_lane}
use Rattle.lanes.proofs.Laws as lanes
use Rattle.planes.specs.Rounds.{added_lane, mixed_lane, moved_lane, key_lane, rounds_lane, encrypt_lane}
use Rattle.planes.proofs.Laws.{added_length, mixed_length, moved_length}
use Rattle.batch.specs.Batch.{rounds_lanes, encrypt_lanes}
use Rattle.batch.specs.Theorems.{BatchLaws}

-- The rounds keep the number of words.
rounds-length : (k : List ℕ) (n : ℕ) (s : List ℕ) (r : ℕ) → length (rounds_lanes k n s r) ≡ length s
unfolding rounds_lanes
rounds-length k n s zero = refl
rounds-length k n s (suc r) = (lanes.laws).each_length _ n _ ∙ (lanes.laws).rows_length 4 n _ ∙ rounds-length k n s r

-- The cipher keeps the number of words.
lanes_length : (k : List ℕ) (n : ℕ) (s : List ℕ) → length (encrypt_lanes k n s) ≡ length s
unfolding encrypt_lanes
lanes_length k n s = simp ((lanes.laws).each_length, (lanes.laws).rows_length, rounds-length)

module _ (k : List ℕ) (n j : ℕ) (few : n ≤ 16) (there : j < n) where
  -- SUBBYTES, then a step of each lane.
  step : (f : List ℕ → List ℕ) → ((x : List ℕ) → length (f x) ≡ 32) → (s : List ℕ) → length s ≡ 512
      → lane_at (each_lane f n (sub_rows 4 n s)) j ≡ f (sub_lane (lane_at s j))
  step f h s e =
      (lanes.laws).each_lane_lem f (λ x _. h x) n j (sub_rows 4 n s) few there ((lanes.laws).rows_length 4 n s ∙ e)
      ∙ ap f ((lanes.laws).sub_lane_lem n j s few there e)

  -- The rounds of a lane.
  rounds_lane_lem : (s : List ℕ) → length s ≡ 512 → (r : ℕ) → lane_at (rounds_lanes k n s r) j ≡ rounds_lane k (lane_at s j) r
  unfolding rounds_lanes rounds_lane
  rounds_lane_lem s e zero = refl
  rounds_lane_lem s e (suc r) =
      let f = mixed_lane (key_lane k (suc r)) in
      step f (mixed_length (key_lane k (suc r))) (rounds_lanes k n s r) (rounds-length k n s r ∙ e)
      ∙ ap (λ (x : List ℕ). f (sub_lane x)) (rounds_lane_lem s e r)

  -- CIPHER of a lane.
  encrypt_lane_lem : (s : List ℕ) → length s ≡ 512 → lane_at (encrypt_lanes k n s) j ≡ encrypt_lane k (lane_at s j)
  unfolding encrypt_lanes encrypt_lane
  encrypt_lane_lem s e =
      let t₁ = each_lane turned_of n s in
      let first = key_lane k 0 in
      let last = key_lane k 14 in
      let t₂ = each_lane (added_lane first) n t₁ in
      let t₃ = rounds_lanes k n t₂ 13 in
      let t₄ = each_lane (moved_lane last) n (sub_rows 4 n t₃) in
      let e₁ : length t₁ ≡ 512 = (lanes.laws).each_length _ n s ∙ e in
      let e₂ : length t₂ ≡ 512 = (lanes.laws).each_length _ n t₁ ∙ e₁ in
      let e₃ : length t₃ ≡ 512 = rounds-length k n t₂ 13 ∙ e₂ in
      let e₄ : length t₄ ≡ 512 = (lanes.laws).each_length _ n _ ∙ (lanes.laws).rows_length 4 n t₃ ∙ e₃ in
      (lanes.laws).each_lane_lem turned_of (turn.laws).turned_length n j t₄ few there e₄
      ∙ ap turned_of
      (step (moved_lane last) (moved_length last) t₃ e₃
      ∙ ap (λ (x : List ℕ). moved_lane last (sub_lane x))
      (rounds_lane_lem t₂ e₂ 13
      ∙ ap (λ (x : List ℕ). rounds_lane k x 13)
      ((lanes.laws).each_lane_lem (added_lane first) (λ x _. added_length first x) n j t₁ few there e₁
      ∙ ap (added_lane first) ((lanes.laws).each_lane_lem turned_of (turn.laws).turned_length n j s few there e))))

pub laws : BatchLaws
laws = record { lane = λ k n j s l h e. encrypt_lane_lem k n j l h s e; lanes_length = lanes_length }
