-- `ctr::apply_keystream` meets its contract. In both loops the first bytes of out, as far as they go, are the sum's. Assumes nothing.
use mathlib.Core.Path.{◌≡◌, ap, ◌∙◌}
use Prim.Native.Nat.{ℕ, ◌+◌, ◌/◌}
use native.Mathlib.Omega.{arith}
use lib.ListN.{length}
use Rattle.block.specs.Number.{block_number}
use Rattle.ctr_spec.specs.CounterMode.{output_block, stream, xors, ctr_over}
use Rattle.ctr_spec.proofs.Xors.{xors-length}
use Rattle.ctr_spec.proofs.Stream.{stream_turn, take_whole}
use Rattle.ctr.proofs.apply_keystream.Goals as goal

pub loop-j-preserved : goal.loop-j-preserved
loop-j-preserved c =
    let l = c.loop-j in
    let a = c.args in
    let e : (a.n + c.loop-i.i) / 16 ≡ (a.n + l.j) / 16 = omega (arith, c.block_end-end.ensures) in
    let block = c.output_block-s.ensures ∙ ap (λ (k : ℕ). output_block a.keys.schedule (block_number a.iv + k)) e in
    stream_turn a.keys.schedule (block_number a.iv) a.n l.j a.text.now l.out c.output_block-s.result
    (omega (arith, c.block_end-end.ensures)) (l.auto.out ∙ c.loop-i.auto.out ∙ c.requires.out_len) block l.invariant

pub returns : goal.returns
unfolding ctr_over
returns c =
    let l = c.loop-i in
    let a = c.args in
    let sum = xors a.text.now (stream a.keys.schedule (block_number a.iv) a.n (length a.text.now)) in
    take_whole l.out sum l.i (omega arith) (simp xors-length (omega arith)) l.invariant.1
