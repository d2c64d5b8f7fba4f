-- `slicewalk::walk_piece` ends: of each line some of the input is taken. Assumes nothing.
use Prim.Native.Nat.{ℕ, ◌≤◌, ◌<◌}
use mathlib.Core.Path.{◌≡◌}
use mathlib.Core.List.{List}
use native.Mathlib.Omega.{arith}
use lib.ListN.{length, length-take, length-drop}
use Rattle.walk.specs.Lines.{Reader, feed}
use Rattle.walk.proofs.Lines.{feed_takes}
use Rattle.slicewalk.proofs.walk_piece.Goals as goal

takes : (r : Reader) (p : List ℕ) (t : ℕ) → t ≡ (feed r p).taken → 0 < length p → (0 < t) × (t ≤ length p)
takes r p t e l = rw e (feed_takes r p l)

pub slice_bounds-rest-count : goal.slice_bounds-rest-count
slice_bounds-rest-count g c = (takes _ _ _ c.feed-fed.ensures.took c.loop-rest-test.true).1

pub slice_bounds-rest-start : goal.slice_bounds-rest-start
slice_bounds-rest-start g c = (takes _ _ _ c.feed-fed.ensures.took c.loop-rest-test.true).1

pub loop-rest-smaller : goal.loop-rest-smaller
loop-rest-smaller g c =
    simp (length-take, length-drop) (omega (arith, takes _ _ _ c.feed-fed.ensures.took c.loop-rest-test.true))
