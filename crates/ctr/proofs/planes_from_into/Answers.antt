-- `ctr::planes_from_into` meets its contract: the first bytes of out, as far as the chunks go, are the sum's. Assumes nothing.
use mathlib.Core.Path.{◌∙◌}
use native.Mathlib.Omega.{arith}
use Rattle.aes.specs.KeyExpansion.{key_expansion}
use Rattle.block.specs.Number.{block_number}
use Rattle.ctr.proofs.Chunks.{chunk_turn, chunks_done}
use Rattle.ctr.proofs.planes_from_into.Goals as goal

pub loop-at-init : goal.loop-at-init
loop-at-init c = (omega arith, λ i l. absurd (omega arith))

pub loop-at-preserved : goal.loop-at-preserved
loop-at-preserved c =
    let lanes = c.min-lanes in
    let count = c.min-k in
    let l = c.loop-at in
    let keys = c.key_planes-keys in
    let a = c.args in
    let agree =
    chunk_turn (key_expansion a.key.now) _ (block_number c.load_block-c.result) a.n l.at lanes.result count.result a.text.now l.out
    _ keys.ensures c.output_blocks.ensures (omega (arith, lanes.ensures, count.ensures))
    (omega (arith, count.ensures)) (l.auto.out ∙ c.requires.out_len) l.invariant.1 _ c.add_stream.ensures in
    (omega (arith, count.ensures), agree)

pub returns : goal.returns
returns c =
    let l = c.loop-at in
    let a = c.args in
    chunks_done a.key.now a.iv.now a.n l.at a.text.now l.out c.load_block-c.ensures
    c.requires.iv_len (omega arith) (l.auto.out ∙ c.requires.out_len) l.invariant.1
