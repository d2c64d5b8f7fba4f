-- `frames::read_pairs` meets its contract. The numbers begin with those of the i pairs of bytes passed. Assumes nothing.
use Prim.Native.Nat.{◌*◌}
use mathlib.Core.Path.{◌≡◌, sym, ◌∙◌}
use mathlib.Core.List.{append-nil}
use native.Mathlib.Omega.{arith}
use lib.ListN.{length}
use lib.Seq.{drop-length, take-length}
use Rattle.frames.specs.Frames.{pairs}
use Rattle.frames.proofs.Pairs.{pairs_turn}
use Rattle.frames.proofs.read_pairs.Goals as goal

pub loop-i-preserved : goal.loop-i-preserved
loop-i-preserved c =
    let l = c.loop-i in
    rw (c.from.ensures, c.pair_at.ensures) (l.invariant ∙ pairs_turn c.args.bytes.now l.numbers l.i (omega arith) (omega arith))

pub returns : goal.returns
unfolding pairs
returns c =
    let l = c.loop-i in
    let bytes = c.args.bytes.now in
    let e : l.i ≡ length l.numbers = omega arith in
    let all : 2 * length l.numbers ≡ length bytes = omega arith in
    sym (l.invariant ∙ rw (e, all, drop-length, take-length) (append-nil l.numbers))
