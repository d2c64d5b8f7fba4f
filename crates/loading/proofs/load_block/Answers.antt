-- `loading::load_block` meets its contract. Assumes nothing.
use mathlib.Core.Path.{◌≡◌, refl, sym, ap, ap₂, ◌∙◌}
use mathlib.Core.List.{List}
use Prim.Native.Nat.{ℕ, ◌+◌, ◌-◌, ◌*◌}
use native.Mathlib.Omega.{arith}
use lib.ListN.{length, replicate}
use lib.Seq.{length-take-le}
use Rattle.ctr_spec.specs.CounterMode.{ctr}
use Rattle.model.specs.Parts.{part}
use Rattle.model.specs.Geometry.{number_at}
use Rattle.model.specs.Opening.{load}
use Rattle.model.proofs.Parts.{part_length, part_lent, part_lent_length}
use Rattle.model.proofs.Bounds.{map_blocks_small}
use Rattle.loading.proofs.Loads.{settled_by}
use Rattle.loading.proofs.Entries.{block_lies}
use Rattle.loading.proofs.load_block.Goals as goal

-- ---- the needs
pub overflow_add-from : goal.overflow_add-from
overflow_add-from c = omega (arith, c.requires.7, map_blocks_small c.args.g c.requires.0)

pub overflow_mul-from : goal.overflow_mul-from
overflow_mul-from c = omega (arith, block_lies c.args.g c.requires.0 c.args.t _ c.requires.7 c.requires.8)

pub ctr_into-requires : goal.ctr_into-requires
ctr_into-requires c =
    let a = c.args in
    let header = a.header.now in
    let lies = block_lies a.g c.requires.0 a.t _ c.requires.7 c.requires.8 in
    let at : ℕ = a.g.b * (1 + a.t) + 16 in
    let end : a.g.b * (1 + a.t) + a.g.b - at ≡ a.g.b - 16 = omega (arith, lies) in
    let text : length (part at (a.g.b * (1 + a.t) + a.g.b - at) header) ≡ a.g.b - 16 = ap (λ (n : ℕ). length (part at n header)) end ∙ part_length header at (a.g.b - 16) (omega (arith, lies)) in
    record {
      key_len = c.requires.1;
      iv_len = part_lent_length header (a.g.b * (1 + a.t)) 16 (omega (arith, lies));
      out_len = length-take-le (a.g.b - 16) (replicate 4096 0) (omega (arith, lies)) ∙ sym text;
      text_len_bound = omega (arith, text, lies);
    }

pub load_entries-requires : goal.load_entries-requires
load_entries-requires c =
    let lies = block_lies c.args.g c.requires.0 c.args.t _ c.requires.7 c.requires.8 in
    let long = c.ctr_into.auto.out ∙ length-take-le (c.args.g.b - 16) (replicate 4096 0) (omega (arith, lies)) in
    (c.requires.2, c.requires.3, c.requires.4, c.requires.5, rw long (omega (arith, c.requires.6)))

pub returns : goal.returns
returns c =
    let a = c.args in
    let header = a.header.now in
    let at : ℕ = a.g.b * (1 + a.t) + 16 in
    let lies = block_lies a.g c.requires.0 a.t _ c.requires.7 c.requires.8 in
    let end : a.g.b * (1 + a.t) + a.g.b - at ≡ a.g.b - 16 = omega (arith, lies) in
    let entries = c.ctr_into.ensures ∙ ap₂ (ctr a.key.now) (part_lent header (a.g.b * (1 + a.t)) 16 refl) (ap (λ (n : ℕ). part at n header) end) in
    settled_by
    (ap (λ (t : List ℕ). load (length a.owners.now) a.counts.now (λ (i : ℕ). number_at (4 * (i - a.n)) t) a.count a.n a.maps.now a.owners.now) entries)
    _ _ _ c.load_entries.ensures
