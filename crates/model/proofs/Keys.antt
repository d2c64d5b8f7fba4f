-- The data keys and the counts of an opening: 15 of 32 bytes, and 15 numbers, zeros above k. Assumes nothing.
use Prim.Native.Nat.{ℕ, ◌+◌, ◌-◌, ◌*◌, ◌≤◌, ◌<◌}
use mathlib.Core.Path.{◌≡◌, ap, ◌∙◌}
use mathlib.Core.List.{List}
use native.Mathlib.Omega.{arith}
use lib.ListN.{length, replicate, length-append, length-replicate, get_or-replicate, get_or-append}
use lib.Seq.{get_or-append-add}
use Rattle.model.specs.Parts.{part}
use Rattle.model.specs.Session.{key_in}
use Rattle.model.specs.Geometry.{count_in}
use Rattle.model.specs.Opening.{all_keys, all_counts}
use Rattle.model.proofs.Parts.{part_right, part_replicate}

module _ (keys : List ℕ) (k : ℕ) (e : length keys ≡ 32 * (k + 1)) (l : k < 15) where
  abbrev zeros : List ℕ
  zeros = replicate (32 * (14 - k)) 0

  pub all_keys_length : length (all_keys keys k) ≡ 480
  all_keys_length = omega (arith, length-append keys zeros, length-replicate {A = ℕ} (32 * (14 - k)) 0)

  pub all_keys_above : (i : ℕ) → k < i → i < 15 → key_in (all_keys keys k) i ≡ replicate 32 0
  all_keys_above i lo hi =
      let x = 32 * (i - (k + 1)) in
      let at : 32 * i ≡ 32 * (k + 1) + x = omega arith in
      ap (λ (y : ℕ). part y 32 (all_keys keys k)) at
      ∙ part_right keys zeros (32 * (k + 1)) e x 32
      ∙ part_replicate x 32 (32 * (14 - k)) 0 (omega arith)

module _ (counts : List ℕ) (k : ℕ) (e : length counts ≡ k + 1) (l : k < 15) where
  pub all_counts_length : length (all_counts counts k) ≡ 15
  all_counts_length = omega (arith, length-append counts (replicate (14 - k) 0), length-replicate {A = ℕ} (14 - k) 0)

  pub all_counts_below : (i : ℕ) → i ≤ k → count_in (all_counts counts k) i ≡ count_in counts i
  all_counts_below i lo = get_or-append counts (replicate (14 - k) 0) 0 i (omega arith)

  pub all_counts_above : (i : ℕ) → k < i → i < 15 → count_in (all_counts counts k) i ≡ 0
  all_counts_above i lo hi =
      let at : i ≡ length counts + (i - (k + 1)) = omega arith in
      ap (count_in (all_counts counts k)) at
      ∙ get_or-append-add counts (replicate (14 - k) 0) (i - (k + 1)) 0
      ∙ get_or-replicate (14 - k) (i - (k + 1)) 0 0 (omega arith)
