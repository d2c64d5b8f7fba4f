-- `storing::claim` meets its contract. The loop's invariant: n data blocks stand behind the IV block. Assumes nothing.
use Rattle.std.proofs.Common.{ℕ, ◌≡◌, ◌+◌, ◌*◌, sym, ap, ◌∙◌, List, ◌++◌, arith}
use mathlib.Core.Path.{ap₂}
use Rattle.model.specs.Parts.{overlay, joined}
use Rattle.model.specs.Geometry.{block_start}
use Rattle.model.specs.Write.{claimed_bytes}
use Rattle.model.proofs.Bounds.{block_fits}
use Rattle.model.proofs.Blocks.{claimed_block, claimed_block_length}
use Rattle.places.proofs.Parts.{overlay_append, overlay_none, overlay_joined}
use Rattle.storing.proofs.Claims.{claimed_block_text, claimed_block_zeros, claimed_block_fits}
use Rattle.storing.proofs.claim.Goals as goal
use Rattle.storing.proofs.claim.Goals.{then-n-j, else-n-j}

pub store-requires : goal.store-requires
store-requires c =
    let p = c.requires in
    omega (arith, c.slice_start-start.ensures, claimed_block_fits c.args.g p.0 c.args.slice 0 p.3 p.0.slice_least, p.1, p.4)

pub loop-n-init : goal.loop-n-init
loop-n-init c = sym (overlay_none _ _ _)

pub store_ctr-requires-clause-text_in_bounds : goal.store_ctr-requires-clause-text_in_bounds
store_ctr-requires-clause-text_in_bounds c =
    let p = c.requires in
    omega (arith, block_fits c.args.g p.0 c.args.slice c.loop-n.n p.3 c.loop-n-test.true, c.block_start-at.ensures, c.store.auto, p.1, p.5)

pub store_zeros-requires-clause-b_in_bounds : goal.store_zeros-requires-clause-b_in_bounds
store_zeros-requires-clause-b_in_bounds c =
    let p = c.requires in
    omega (arith, block_fits c.args.g p.0 c.args.slice c.loop-n.n p.3 c.loop-n-test.true, c.block_start-at.ensures, c.store.auto, p.1)

pub loop-n-preserved : goal.loop-n-preserved
unfolding block_start
loop-n-preserved c =
    let l = c.loop-n in
    let a = c.args in
    let b = a.g.b in
    let f : ℕ → List ℕ = claimed_block b a.key.now a.ivs.now a.j a.text.now in
    let at : c.block_start-at.result ≡ c.slice_start-start.result + b + l.n * b =
    omega (arith, c.block_start-at.ensures, c.slice_start-start.ensures) in
    let stored : c.if-n-j.device ≡ overlay l.device c.block_start-at.result (f l.n) =
    elim c.if-n-j.branch [
      | then-n-j w ↦
          w.device-is
          ∙ w.store_ctr.ensures
          ∙ ap (overlay l.device c.block_start-at.result) (claimed_block_text b a.key.now a.ivs.now a.j a.text.now l.n w.if-n-j.true)
      | else-n-j w ↦
          w.device-is
          ∙ w.store_zeros.ensures
          ∙ ap (overlay l.device c.block_start-at.result) (claimed_block_zeros b a.key.now a.ivs.now a.j a.text.now l.n w.if-n-j.false)
    ] in
    stored
    ∙ ap₂ (λ (t : List ℕ) (k : ℕ). overlay t k (f l.n)) l.invariant at
    ∙ overlay_joined c.store.new.device (c.slice_start-start.result + b) b l.n f
    (λ n h. claimed_block_length b a.key.now a.ivs.now a.j a.text.now c.requires.5 n)

pub returns : goal.returns
unfolding claimed_bytes
returns c =
    let a = c.args in
    let block : ℕ → List ℕ = claimed_block a.g.b a.key.now a.ivs.now a.j a.text.now in
    let at = c.slice_start-start.result in
    let behind = joined a.g.s block in
    let all : c.loop-n.n ≡ a.g.s = omega arith in
    c.loop-n.invariant
    ∙ ap₂ (λ (n : ℕ) (t : List ℕ). overlay t (at + a.g.b) (joined n block)) all c.store.ensures
    ∙ ap (λ (k : ℕ). overlay (overlay a.device.now at a.ivs.now) (at + k) behind) (sym c.requires.4)
    ∙ overlay_append a.device.now at a.ivs.now behind
    ∙ ap (λ (k : ℕ). overlay a.device.now k (a.ivs.now ++ behind)) c.slice_start-start.ensures
