-- `bench_bare::apply_keystream` meets its contract. In both loops the first i bytes of out are the sum's. Assumes nothing.
use mathlib.Core.Path.{◌≡◌, refl, ap, ◌∙◌}
use Prim.Native.Nat.{ℕ, ◌+◌, ◌/◌}
use native.Mathlib.Omega.{arith}
use borrow.Author.Rules.{rules}
use lib.ListN.{length, length-set}
use Rattle.block.specs.Number.{block_number}
use Rattle.ctr_spec.specs.CounterMode.{output_block, stream, xors}
use Rattle.ctr_spec.proofs.Xors.{xors-length}
use Rattle.ctr_spec.proofs.Stream.{stream_turn, take_whole}
use Rattle.bench_bare.proofs.apply_keystream.Goals as goal

pub loop-i-init : goal.loop-i-init
loop-i-init c = (omega arith, search rules, refl)

pub loop-i-2-init : goal.loop-i-2-init
loop-i-2-init c =
    let l = c.loop-i in
    (omega arith, omega arith, l.invariant.1, l.invariant.2)

pub loop-i-preserved : goal.loop-i-preserved
loop-i-preserved c = (omega arith, c.loop-i-2.invariant.2, c.loop-i-2.invariant.3)

pub loop-i-2-preserved : goal.loop-i-2-preserved
loop-i-2-preserved c =
    let l = c.loop-i-2 in
    let outer = c.loop-i in
    let a = c.args in
    let e : (a.n + outer.i) / 16 ≡ (a.n + l.i) / 16 = omega (arith, c.block_end-end.ensures) in
    let block = c.output_block-s.ensures ∙ ap (λ (k : ℕ). output_block a.w.now (block_number a.iv + k)) e in (
      omega arith,
      omega arith,
      length-set l.out l.i _ ∙ l.invariant.2,
      stream_turn a.w.now (block_number a.iv) a.n l.i a.text.now l.out c.output_block-s.result
          (omega (arith, c.block_end-end.ensures)) l.invariant.2 block l.invariant.3,
    )

pub returns : goal.returns
returns c =
    let l = c.loop-i in
    let a = c.args in
    let sum = xors a.text.now (stream a.w.now (block_number a.iv) a.n (length a.text.now)) in
    take_whole l.out sum l.i (omega arith) (simp xors-length (omega arith)) l.invariant.2
