-- `chaining::open_chain` meets its contract. The loop's invariant: the chain is what the i headers that remain leave, with the
-- keys and the counts above them in their places and 0 above k. Assumes nothing.
use mathlib.Core.Path.{◌≡◌, refl, sym, ap, ◌∙◌}
use Prim.Native.Nat.{◌+◌, ◌-◌, ◌*◌, ◌≤◌}
use native.Mathlib.Omega.{arith}
use borrow.Author.Rules.{rules}
use lib.ListN.{length, set}
use Rattle.refusals.specs.Numbers.{refusal_number, answer_number}
use Rattle.refusals.proofs.Positive.{refusal_positive}
use Rattle.model.specs.Parts.{part}
use Rattle.model.specs.Geometry.{header_of}
use Rattle.model.specs.Opening.{vek_of, slice_count}
use Rattle.model.proofs.Parts.{part_length}
use Rattle.chaining.proofs.Headers.{header_begins, header_opened}
use Rattle.chaining.proofs.Chains.{remaining_broken, remaining_next, remaining_first, remaining_done, chain_broken, chain-served}
use Rattle.chaining.proofs.Chains.{keys_next, keys_above, no_keys-length, no_keys_above, keys_whole}
use Rattle.chaining.proofs.Chains.{counts_next, counts_above, no_counts_above, counts_whole}
use Rattle.chaining.proofs.open_chain.Goals as goal

pub loop-i-init : goal.loop-i-init
loop-i-init c =
    let a = c.args in
    record {
      text = refl;
      keys = ap (part (32 * (a.k + 1)) (32 * (14 - a.k))) c.requires.4 ∙ no_keys_above a.k c.requires.2;
      counts = ap (part (a.k + 1) (14 - a.k)) c.requires.5 ∙ no_counts_above a.k c.requires.2;
      chain = remaining_first a.g (header_of a.g a.device.now) a.k a.vmk.now a.keys.now a.counts.now (32 * (a.k + 1)) (a.k + 1);
    }

pub slice_bounds-open_header-count : goal.slice_bounds-open_header-count
slice_bounds-open_header-count c =
    omega (arith, header_begins c.args.g c.requires.0 c.args.device.now (c.loop-i.i - 1) (omega arith) c.requires.1 c.header_start-start.ensures)

pub slice_bounds-open_header-start : goal.slice_bounds-open_header-start
slice_bounds-open_header-start c =
    omega (arith, header_begins c.args.g c.requires.0 c.args.device.now (c.loop-i.i - 1) (omega arith) c.requires.1 c.header_start-start.ensures)

pub open_header-requires : goal.open_header-requires
open_header-requires c =
    let l = c.loop-i in
    let device = c.args.device.now in
    let from = c.header_start-start.result in
    let begins = header_begins c.args.g c.requires.0 device (l.i - 1) (omega arith) c.requires.1 c.header_start-start.ensures in
    let long = part_length device from (length device - from) (omega (arith, begins)) in
    (omega (arith, long, begins), omega arith, l.auto.vmk ∙ c.requires.3, l.invariant.text)

pub returns-in_err-open_header : goal.returns-in_err-open_header
returns-in_err-open_header c =
    let l = c.loop-i in
    let a = c.args in
    let r = c.in_err-open_header.field-0.0 in
    let opened =
    header_opened a.g c.requires.0 a.device.now l.vmk (l.i - 1) (omega arith) c.requires.1 _ _ c.header_start-start.ensures
    c.in_err-open_header.ensures in
    let same : answer_number c.from_residual.result ≡ refusal_number r = search rules in
    let not_served : refusal_number r ≡ 0 → ⊥ = λ e. omega (arith, refusal_positive r) in
    rw same
    (chain_broken _ _ _ _
    (l.invariant.chain ∙ remaining_broken a.g (header_of a.g a.device.now) l.i l.vmk _ _ c.loop-i-test.true _ _ opened not_served)
    not_served)

pub store-requires : goal.store-requires
store-requires c =
    let vek = part_length c.open_header.new.text 0 32 (omega (arith, c.open_header.auto.text, c.loop-i.invariant.text)) in
    omega (arith, vek, ap length c.requires.4 ∙ no_keys-length)

pub loop-i-preserved : goal.loop-i-preserved
loop-i-preserved c =
    let l = c.loop-i in
    let a = c.args in
    let text = c.open_header.new.text in
    let text_length : length text ≡ 72 = c.open_header.auto.text ∙ l.invariant.text in
    let opened =
    header_opened a.g c.requires.0 a.device.now l.vmk (l.i - 1) (omega arith) c.requires.1 _ _ c.header_start-start.ensures
    c.in_ok-open_header.ensures in
    let keys_length : length l.keys ≡ 480 = l.auto.keys ∙ ap length c.requires.4 ∙ no_keys-length in
    let counts_length : length l.counts ≡ 15 = l.auto.counts ∙ ap length c.requires.5 in
    let taken = c.loop-i-test.true in
    let below : l.i ≤ a.k + 1 = omega arith in
    let vek = part_length text 0 32 (omega (arith, text_length)) in
    let stored = c.store.ensures in
    let counted : _ ≡ set l.counts (l.i - 1) (slice_count text) = ap (set l.counts (l.i - 1)) c.number_at.ensures in
    record {
      text = text_length;
      keys = ap (part (32 * (a.k + 1)) (32 * (14 - a.k))) stored ∙ keys_above l.keys (vek_of text) a.k l.i vek taken below l.invariant.keys;
      counts = counts_above l.counts _ a.k l.i taken below l.invariant.counts;
      chain = l.invariant.chain
          ∙ remaining_next a.g (header_of a.g a.device.now) l.i l.vmk _ _ taken _ text opened refl
          (sym c.copy_from_slice.ensures.after)
          (keys_next l.keys (vek_of text) a.k l.i keys_length vek c.requires.2 taken below
          ∙ ap (part (32 * (l.i - 1)) (32 * (a.k + 1 - (l.i - 1)))) (sym stored))
          (counts_next l.counts (slice_count text) a.k l.i counts_length c.requires.2 taken below
          ∙ ap (part (l.i - 1) (a.k + 1 - (l.i - 1))) (sym counted));
    }

pub returns : goal.returns
returns c =
    let l = c.loop-i in
    let a = c.args in
    let z : l.i ≡ 0 = omega arith in
    chain-served _ _ _ _ _ (l.invariant.chain ∙ remaining_done a.g (header_of a.g a.device.now) l.vmk _ _ z)
    (keys_whole l.keys a.k (l.auto.keys ∙ ap length c.requires.4 ∙ no_keys-length) c.requires.2 z l.invariant.keys)
    (counts_whole l.counts a.k (l.auto.counts ∙ ap length c.requires.5) c.requires.2 z l.invariant.counts)
