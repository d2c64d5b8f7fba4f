-- `frames::set_order` meets its contract. Assumes nothing.
use Prim.Native.Nat.{ℕ, ◌≤◌}
use mathlib.Core.Path.{◌≡◌, sym, ap, ◌∙◌}
use mathlib.Core.List.{List, ◌++◌}
use native.Mathlib.Omega.{arith}
use lib.ListN.{length, take, drop}
use lib.Seq.{length-take-le, take_at}
use Rattle.model.specs.Permutation.{missing}
use Rattle.frames.proofs.set_order.Goals as goal

-- The part that is lent has p places, and the permutation afterwards begins with what was read.
module _ (perm numbers : List ℕ) (p : ℕ) (room : p ≤ length perm) where
  lent : length (take p perm) ≡ p
  lent = length-take-le p perm room

  module _ (kept : length numbers ≡ length (take p perm)) where
    begins : take p (numbers ++ drop p perm) ≡ numbers
    begins = take_at numbers _ p (kept ∙ lent)

pub slice_bounds-read_pairs-end-2 : goal.slice_bounds-read_pairs-end-2
slice_bounds-read_pairs-end-2 c = sym (length-take-le _ _ c.requires.1)

pub read_pairs-requires : goal.read_pairs-requires
read_pairs-requires c = omega (arith, length-take-le _ _ c.requires.1)

pub slice_bounds-is_missing-end-2 : goal.slice_bounds-is_missing-end-2
slice_bounds-is_missing-end-2 c =
    let kept = c.read_pairs.auto.numbers in
    sym (ap length (begins _ _ _ c.requires.1 kept) ∙ kept ∙ length-take-le _ _ c.requires.1)

pub returns : goal.returns
returns c =
    let e = begins _ _ _ c.requires.1 c.read_pairs.auto.numbers ∙ c.read_pairs.ensures in
    (e, c.is_missing.ensures ∙ ap (missing c.args.p) e)
