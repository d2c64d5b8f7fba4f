-- `lines::print_bytes` meets its contract. The output begins with the digits of the i bytes passed. Assumes nothing.
use Prim.Native.Nat.{◌*◌}
use mathlib.Core.Path.{◌≡◌, sym}
use mathlib.Core.List.{[], ◌∷◌}
use native.Mathlib.Omega.{arith}
use lib.ListN.{length, length-set, length-append}
use lib.Seq.{take-length}
use Rattle.lines.specs.Hexadecimal.{digits}
use Rattle.lines.proofs.Printing.{overlay_nil, overlay_snoc, digits-length, digits_turn}
use Rattle.lines.proofs.print_bytes.Goals as goal

pub loop-i-init : goal.loop-i-init
unfolding digits
loop-i-init c = sym (overlay_nil c.args.out.now)

pub loop-i-preserved : goal.loop-i-preserved
loop-i-preserved c =
    let l = c.loop-i in
    rw (l.invariant, c.digit.ensures, c.digit-in-loop-i.ensures) (digits_turn c.args.bytes.now c.args.out.now l.i c.loop-i-test.true)

pub returns : goal.returns
returns c =
    let l = c.loop-i in
    let a = c.args in
    let bytes = a.bytes.now in
    let e : l.i ≡ length bytes = omega arith in
    record {
      put = rw (l.invariant, e, take-length) (overlay_snoc a.out.now (digits bytes) (2 * length bytes) 10 (digits-length bytes));
      long = omega (arith, length-append (digits bytes) (10 ∷ []), digits-length bytes);
      fits = simp length-set (omega arith);
    }
