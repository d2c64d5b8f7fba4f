-- `loading::load_volume` meets its contract. The loop's invariant: loading the volume is loading what is left after t map blocks into the
-- tables so far. Assumes nothing.
use mathlib.Core.Path.{◌≡◌, sym, ap, ◌∙◌}
use mathlib.Core.List.{List}
use Prim.Native.Nat.{ℕ, ◌+◌, ◌-◌, ◌*◌, ◌%◌, ◌≤◌, ◌<◌, min}
use native.Mathlib.Nat.{mul-le-mul, mul-le-mul_right}
use native.Mathlib.Omega.{arith}
use borrow.Author.Rules.{rules}
use Rattle.refusals.specs.Numbers.{refusal_number, answer_number}
use Rattle.model.specs.declared.Geometry.{Geometry}
use Rattle.model.specs.Geometry.{Allowed, per_block, map_blocks, number_at}
use Rattle.model.specs.Opening.{Loaded, stored_entry, load}
use Rattle.model.proofs.Bounds.{entries_small}
use Rattle.tables.specs.Settled.{Settled}
use Rattle.loading.proofs.Loads.{settled_by, load_cong, part_spoilt, part_loaded, run_done}
use Rattle.loading.proofs.Entries.{block_text, stored_entry_block, block_begins, blocks_end}
use Rattle.loading.proofs.load_volume.Goals as goal

-- The table's rows are few, and each lies within it.
rows_small : (g : Geometry) → Allowed g → (v : ℕ) → v ≤ 14 → v * g.p ≤ 14 * 4096
rows_small g ok v l = mul-le-mul {n₂ = 14} {m₂ = 4096} l ok.slices_most

row_fits : (g : Geometry) (v : ℕ) → v ≤ 14 → v * g.p + g.p ≤ 15 * g.p
row_fits g v l = let w : v + 1 ≤ 15 = omega arith in omega (arith, mul-le-mul_right g.p w)

-- The entries of the volume, by their index in the table.
abbrev from : (g : Geometry) → (key header : List ℕ) → ℕ → ℕ
from g key header n = stored_entry g key header (n % g.p)

module _ (g : Geometry) (ok : Allowed g) (v t c : ℕ) (k : c ≡ per_block g) (l : t < map_blocks g) where
  -- Block t begins within the entries of the volume.
  pub begins : (t * c < g.p) × (t * c ≤ 17 * 1020)
  begins = rw k (block_begins g ok t l, entries_small g ok t l)

  pub at_block : v * g.p + (g.p - (g.p - t * c)) ≡ v * g.p + t * c
  at_block = omega (arith, begins.0)

  -- So the loading goes on there.
  pub goes_on : (f : ℕ → ℕ) (counts maps owners : List ℕ) {whole : Loaded}
      → whole ≡ load g.p counts f (g.p - t * c) (v * g.p + (g.p - (g.p - t * c))) maps owners
      → whole ≡ load g.p counts f (g.p - t * c) (v * g.p + t * c) maps owners
  goes_on f counts maps owners e = e ∙ ap (λ (n : ℕ). load g.p counts f (g.p - t * c) n maps owners) at_block

  module _ {count : ℕ} (e : count ≡ min c (g.p - t * c)) where
    -- What is left from block t on is its entries, and what is left after it.
    pub block_left : g.p - t * c ≡ count + (g.p - (t + 1) * c)
    block_left = omega (arith, e, begins.0)

    pub next_block : v * g.p + t * c + count ≡ v * g.p + (g.p - (g.p - (t + 1) * c))
    next_block = omega (arith, e, begins.0)

    -- The entries of a map block are loaded as a part of the volume.
    pub block_settled : (key header counts maps owners maps' owners' : List ℕ) (number : ℕ) {p : ℕ} → p ≡ g.p
        → Settled (load p counts (λ i. number_at (4 * (i - (v * g.p + t * c))) (block_text g key header t)) count (v * g.p + t * c) maps owners)
        number maps' owners'
        → Settled (load g.p counts (from g key header) count (v * g.p + t * c) maps owners) number maps' owners'
    block_settled key header counts maps owners maps' owners' number q =
        let n : ℕ = v * g.p + t * c in
        let block : ℕ → ℕ = λ i. number_at (4 * (i - n)) (block_text g key header t) in
        settled_by
        (ap (λ (p : ℕ). load p counts block count n maps owners) q
        ∙ load_cong g.p counts block (from g key header) count n maps owners
        (λ i u w.
        let place : i ≡ v * g.p + (t * per_block g + (i - n)) = rw (← k) (omega (arith, u)) in
        sym
        (ap (from g key header) place
        ∙ stored_entry_block g key header v t (i - n) (omega (arith, k, u, w, e)) (rw (← k) (omega (arith, u, w, e, begins.0))))))
        number maps' owners'

-- ---- the needs
pub overflow_mul-start : goal.overflow_mul-start
overflow_mul-start c = omega (arith, rows_small c.args.g c.requires.0 c.args.volume c.requires.5)

pub overflow_mul-done : goal.overflow_mul-done
overflow_mul-done c =
    let a = c.args in
    let t : c.loop-t.t < map_blocks a.g = omega (arith, c.map_blocks-t-end.ensures) in
    omega (arith, begins a.g c.requires.0 a.volume c.loop-t.t _ c.entries_per_block-c.ensures t)

pub overflow_sub-p : goal.overflow_sub-p
overflow_sub-p c =
    let a = c.args in
    let t : c.loop-t.t < map_blocks a.g = omega (arith, c.map_blocks-t-end.ensures) in
    omega (arith, begins a.g c.requires.0 a.volume c.loop-t.t _ c.entries_per_block-c.ensures t)

pub load_block-requires : goal.load_block-requires
load_block-requires c =
    let a = c.args in
    let l = c.loop-t in
    let t : l.t < map_blocks a.g = omega (arith, c.map_blocks-t-end.ensures) in
    let b = begins a.g c.requires.0 a.volume l.t _ c.entries_per_block-c.ensures t in (
      c.requires.0,
      c.requires.1,
      omega (arith, c.requires.2, c.requires.3),
      omega (arith, c.requires.3, c.requires.0.slices_most),
      c.requires.4,
      omega (arith, row_fits a.g a.volume c.requires.5, c.min-count.ensures, b, c.requires.2),
      omega (arith, c.min-count.ensures, c.entries_per_block-c.ensures),
      t,
      c.requires.6,
    )

pub returns-in_err-load_block : goal.returns-in_err-load_block
returns-in_err-load_block c =
    let a = c.args in
    let l = c.loop-t in
    let f = from a.g a.key.now a.header.now in
    let ok = c.requires.0 in
    let n = c.entries_per_block-c.result in
    let k = c.entries_per_block-c.ensures in
    let t : l.t < map_blocks a.g = omega (arith, c.map_blocks-t-end.ensures) in
    let e = c.min-count.ensures in
    let r = c.in_err-load_block.field-0.0 in
    let same : answer_number c.from_residual.result ≡ refusal_number r = search rules in
    rw same
    (part_spoilt _ _ f c.min-count.result (a.g.p - (l.t + 1) * n) (a.volume * a.g.p + l.t * n) l.maps l.owners _ _
    (goes_on a.g ok a.volume l.t n k t f a.counts.now l.maps l.owners l.invariant) (block_left a.g ok a.volume l.t n k t e) r
    (block_settled a.g ok a.volume l.t n k t e a.key.now a.header.now a.counts.now l.maps l.owners _ _ _ (l.auto.owners ∙ c.requires.3)
    c.in_err-load_block.ensures))

pub loop-t-preserved : goal.loop-t-preserved
loop-t-preserved c =
    let a = c.args in
    let l = c.loop-t in
    let f = from a.g a.key.now a.header.now in
    let ok = c.requires.0 in
    let n = c.entries_per_block-c.result in
    let k = c.entries_per_block-c.ensures in
    let t : l.t < map_blocks a.g = omega (arith, c.map_blocks-t-end.ensures) in
    let e = c.min-count.ensures in
    part_loaded _ _ f c.min-count.result (a.g.p - (l.t + 1) * n) (a.volume * a.g.p + l.t * n) l.maps l.owners _ _
    (goes_on a.g ok a.volume l.t n k t f a.counts.now l.maps l.owners l.invariant) (block_left a.g ok a.volume l.t n k t e)
    (block_settled a.g ok a.volume l.t n k t e a.key.now a.header.now a.counts.now l.maps l.owners _ _ _ (l.auto.owners ∙ c.requires.3)
    c.in_ok-load_block.ensures)
    ∙ ap (λ (i : ℕ). load a.g.p a.counts.now f (a.g.p - (l.t + 1) * n) i c.load_block.new.maps c.load_block.new.owners)
    (next_block a.g ok a.volume l.t n k t e)

pub returns : goal.returns
returns c =
    let l = c.loop-t in
    let a = c.args in
    let all : l.t ≡ map_blocks a.g = omega (arith, c.map_blocks-t-end.ensures) in
    let left : a.g.p - l.t * c.entries_per_block-c.result ≡ 0 = rw (all, c.entries_per_block-c.ensures) (omega (arith, blocks_end a.g c.requires.0)) in
    run_done _ _ _ _ _ l.maps l.owners l.invariant left
