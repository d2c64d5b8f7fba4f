-- `aes::key_expansion` meets its contract. Before turn i the first 4i bytes are the schedule's. Assumes nothing.
use mathlib.Core.Path.{refl}
use native.Mathlib.Omega.{arith}
use lib.ListN.{replicate, length-set}
use Rattle.aes.proofs.Schedule.{key_stored, schedule_more, schedule_done}
use Rattle.aes.proofs.key_expansion.Goals as goal

pub loop-i-init : goal.loop-i-init
loop-i-init c = key_stored _ _ (replicate 240 0) c.requires.key_len refl c.copy_from_slice.ensures.after

pub loop-i-preserved : goal.loop-i-preserved
loop-i-preserved c =
    let l = c.loop-i in
    let r = c.next_word-a in
    let more = schedule_more _ l.w r.result l.i (omega arith) (omega arith) l.invariant.0 l.invariant.1 r.ensures in
    (simp length-set l.invariant.0, more)

pub returns : goal.returns
returns c =
    let l = c.loop-i in
    schedule_done _ l.w l.i (omega arith) (omega arith) l.invariant.0 l.invariant.1
