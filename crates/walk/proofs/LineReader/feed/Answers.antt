-- `LineReader::feed` of `walk` meets its contract. Assumes nothing.
use mathlib.Core.Path.{refl, sym, ap}
use mathlib.Core.List.{[]}
use native.Mathlib.Omega.{arith}
use lib.Seq.{length-take-le}
use Rattle.lines.proofs.Printing.{overlay_nil}
use Rattle.claims.specs.State.{State}
use Rattle.walk.specs.Answers.{reader_of}
use Rattle.walk.proofs.Pieces.{line_length_le, feed_goes_on, feed_ended}
use Rattle.walk.proofs.LineReader.feed.Goals as goal

pub slice_bounds-keep-end : goal.slice_bounds-keep-end
slice_bounds-keep-end c =
    let n = c.line_length-n in
    let piece = c.args.piece.now in
    sym (length-take-le n.result piece (rw n.ensures (line_length_le piece)))

pub returns-then-n-piece : goal.returns-then-n-piece
returns-then-n-piece c =
    let n = c.line_length-n in
    rw (feed_goes_on (reader_of c.args.self.now) c.args.piece.now n.result n.ensures c.if-n-piece.true)
    (record {
      left = rw (c.keep.ensures.walk, c.keep.ensures.line) refl;
      took = refl;
      wrote = record { put = sym (overlay_nil c.args.out.now); long = refl; fits = omega arith };
    })

pub overflow_add-taken : goal.overflow_add-taken
overflow_add-taken c =
    let n = c.line_length-n in
    omega (arith, n.ensures, line_length_le c.args.piece.now, c.if-n-piece.false)

pub returns : goal.returns
returns c =
    let n = c.line_length-n in
    let left = rw c.keep.ensures.walk at c.step-length.ensures.left in
    let printed = rw c.keep.ensures.walk at c.step-length.ensures.printed in
    rw (feed_ended (reader_of c.args.self.now) c.args.piece.now n.result n.ensures c.if-n-piece.false, ← c.keep.ensures.line)
    (record { left = ap (λ (w : State). record { state = w; line = [] }) left; took = refl; wrote = printed })
