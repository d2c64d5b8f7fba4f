-- `keystream::bytes` meets its contract: in both loops the bytes before the block that is next are there. Assumes nothing.
use mathlib.Core.Path.{◌≡◌}
use native.Mathlib.Nat.{add-zero}
use native.Mathlib.Omega.{arith}
use borrow.Author.Rules.{rules}
use Rattle.keystream.proofs.Turns.{out_none, out_turn, out_next}
use Rattle.keystream.proofs.bytes.Goals as goal

pub loop-j-init : goal.loop-j-init
loop-j-init c = out_none _ _ (search rules)

pub loop-i-init : goal.loop-i-init
loop-i-init c = rw add-zero c.loop-j.invariant

pub loop-i-preserved : goal.loop-i-preserved
loop-i-preserved c =
    let l = c.loop-i in
    let r = c.loop-j in
    let t = out_turn _ l.buf _ _ l.i r.j (search rules) (search rules) l.invariant c.block_bytes.ensures c.put_block.ensures in
    t

pub loop-j-preserved : goal.loop-j-preserved
loop-j-preserved c =
    let l = c.loop-i in
    let r = c.loop-j in
    out_next _ l.buf l.i r.j (omega arith) l.invariant

pub returns : goal.returns
returns c =
    let r = c.loop-j in
    let e : r.j ≡ c.args.n = omega arith in
    rw e at r.invariant
