-- `lines::decode` meets its contract. The frame begins with the bytes of the i pairs of digits passed. Assumes nothing.
use Prim.Native.Nat.{◌/◌}
use mathlib.Core.Path.{◌∙◌}
use native.Mathlib.Omega.{arith}
use lib.ListN.{length, take}
use Rattle.lines.proofs.Decoding.{decode-start, decode_odd, decode_pair, decode_high, decode_low, decode_done}
use Rattle.lines.proofs.decode.Goals as goal

pub returns-then-n-line-clause-line_value : goal.returns-then-n-line-clause-line_value
returns-then-n-line-clause-line_value c = decode_odd c.args.line.now c.if-n-line.true

pub loop-i-init : goal.loop-i-init
loop-i-init c = decode-start c.args.line.now c.args.frame.now

pub returns-in_err-h-clause-line_value : goal.returns-in_err-h-clause-line_value
returns-in_err-h-clause-line_value c =
    let l = c.loop-i in
    rw c.from_residual.ensures
    (l.invariant ∙ decode_high c.args.line.now l.i (omega arith) (take l.i l.frame) c.in_err-h.ensures)

pub returns-in_err-l-clause-line_value : goal.returns-in_err-l-clause-line_value
returns-in_err-l-clause-line_value c =
    let l = c.loop-i in
    rw c.from_residual-in_err-l.ensures
    (l.invariant ∙ decode_low c.args.line.now l.i (omega arith) (take l.i l.frame) (omega (arith, c.in_ok-h.ensures)) c.in_err-l.ensures)

pub loop-i-preserved : goal.loop-i-preserved
loop-i-preserved c =
    let l = c.loop-i in
    let h = c.in_ok-h.ensures in
    let low = c.in_ok-l.ensures in
    rw (h.0, low.0)
    (l.invariant ∙ decode_pair c.args.line.now l.i (omega arith) l.frame (omega arith) (omega (arith, h)) (omega (arith, low)))

pub returns-clause-line_value : goal.returns-clause-line_value
returns-clause-line_value c =
    let l = c.loop-i in
    let line = c.args.line.now in
    l.invariant ∙ decode_done line l.frame l.i (length line / 2) (omega arith) (omega arith)
