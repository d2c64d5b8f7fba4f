-- `loading::load_maps` meets its contract. The loop's invariant: loading all maps is loading those of the volumes from v on into
-- the tables so far. Assumes nothing.
use mathlib.Core.Path.{◌≡◌, sym, ap, ap₂, ◌∙◌}
use mathlib.Core.List.{List}
use Prim.Native.Nat.{ℕ, ◌+◌, ◌-◌, ◌*◌, ◌%◌, ◌≤◌}
use native.Mathlib.Nat.{zero-mul, mul-le-mul_right}
use native.Mathlib.Omega.{arith}
use borrow.Author.Rules.{rules}
use lib.ListN.{length, take, drop}
use Rattle.refusals.specs.Numbers.{refusal_number, answer_number}
use Rattle.model.specs.declared.Geometry.{Geometry}
use Rattle.model.specs.Geometry.{Allowed, map_blocks, device_length, header_start, header_of}
use Rattle.model.specs.Session.{key_in}
use Rattle.model.specs.Opening.{stored_entry, map_entries, load}
use Rattle.model.proofs.Parts.{part_length}
use Rattle.model.proofs.Bounds.{header_fits}
use Rattle.tables.specs.Settled.{Settled}
use Rattle.loading.proofs.Loads.{settled_by, load_cong, part_spoilt, part_loaded, run_done}
use Rattle.loading.proofs.Entries.{map_entries_volume}
use Rattle.loading.proofs.load_maps.Goals as goal

-- A volume from the part of the device that starts at its header is loaded as a part of all maps.
volume_settled : (g : Geometry) → Allowed g → (device keys counts : List ℕ) (v : ℕ) → v ≤ 14 → length device ≡ device_length g
    → (number : ℕ) {s : ℕ} {key : List ℕ} (maps owners maps' owners' : List ℕ) → s ≡ header_start g v → key ≡ key_in keys v
    → Settled (load g.p counts (λ n. stored_entry g key (take (length device - s) (drop s device)) (n % g.p)) g.p (v * g.p) maps owners) number
    maps' owners'
    → Settled (load g.p counts (map_entries g (header_of g device) keys) g.p (v * g.p) maps owners) number maps' owners'
volume_settled g ok device keys counts v lv e number {s} maps owners maps' owners' q k =
    settled_by
    (ap
    (λ (key : List ℕ). load g.p counts (λ (n : ℕ). stored_entry g key (take (length device - s) (drop s device)) (n % g.p)) g.p (v * g.p) maps owners) k
    ∙ load_cong g.p counts _ (map_entries g (header_of g device) keys) g.p (v * g.p) maps owners (map_entries_volume g ok device keys v lv e q))
    number maps' owners'

-- What is left from volume v on is that volume, and what is left after it.
volumes_left : (p k v : ℕ) → v ≤ k → (k + 1) * p - v * p ≡ p + ((k + 1) * p - (v + 1) * p)
volumes_left p k v l = let w : v + 1 ≤ k + 1 = omega arith in omega (arith, mul-le-mul_right p w)

-- ---- the needs
pub loop-v-init : goal.loop-v-init
loop-v-init c =
    let a = c.args in
    let p = a.g.p in
    let z : (a.k + 1) * p ≡ (a.k + 1) * p - 0 * p = omega arith in
    ap₂ (λ (j k : ℕ). load p a.counts.now (map_entries a.g (header_of a.g a.device.now) a.keys.now) j k a.maps.now a.owners.now) z
    (sym (zero-mul p))

pub key_in-key-requires : goal.key_in-key-requires
key_in-key-requires c = omega (arith, c.requires.4, c.requires.5)

pub slice_bounds-load_volume-count : goal.slice_bounds-load_volume-count
slice_bounds-load_volume-count c =
    omega (arith, header_fits c.args.g c.requires.0 c.loop-v.v (omega arith), c.header_start-start.ensures, c.requires.1)

pub slice_bounds-load_volume-start : goal.slice_bounds-load_volume-start
slice_bounds-load_volume-start c =
    omega (arith, header_fits c.args.g c.requires.0 c.loop-v.v (omega arith), c.header_start-start.ensures, c.requires.1)

pub load_volume-requires : goal.load_volume-requires
load_volume-requires c =
    let l = c.loop-v in
    let device = c.args.device.now in
    let from = c.header_start-start.result in
    let begins : from + c.args.g.b * (1 + map_blocks c.args.g) ≤ length device = omega (arith, header_fits c.args.g c.requires.0 l.v (omega arith), c.header_start-start.ensures, c.requires.1) in
    let long = part_length device from (length device - from) (omega (arith, begins)) in (
      c.requires.0,
      c.key_in-key.ensures.1,
      l.auto.maps ∙ c.requires.2,
      l.auto.owners ∙ c.requires.3,
      c.requires.6,
      omega arith,
      omega (arith, long, begins),
    )

pub returns-in_err-load_volume : goal.returns-in_err-load_volume
returns-in_err-load_volume c =
    let l = c.loop-v in
    let a = c.args in
    let p = a.g.p in
    let r = c.in_err-load_volume.field-0.0 in
    let same : answer_number c.from_residual.result ≡ refusal_number r = search rules in
    rw same
    (part_spoilt _ _ _ p ((a.k + 1) * p - (l.v + 1) * p) (l.v * p) l.maps l.owners _ _ l.invariant (volumes_left p a.k l.v (omega arith)) r
    (volume_settled a.g c.requires.0 a.device.now a.keys.now a.counts.now l.v (omega arith) c.requires.1 _ l.maps l.owners _ _
    c.header_start-start.ensures c.key_in-key.ensures.0 c.in_err-load_volume.ensures))

pub loop-v-preserved : goal.loop-v-preserved
loop-v-preserved c =
    let l = c.loop-v in
    let a = c.args in
    let p = a.g.p in
    let f = map_entries a.g (header_of a.g a.device.now) a.keys.now in
    let k : l.v * p + p ≡ (l.v + 1) * p = omega arith in
    part_loaded _ _ f p ((a.k + 1) * p - (l.v + 1) * p) (l.v * p) l.maps l.owners _ _ l.invariant (volumes_left p a.k l.v (omega arith))
    (volume_settled a.g c.requires.0 a.device.now a.keys.now a.counts.now l.v (omega arith) c.requires.1 _ l.maps l.owners _ _
    c.header_start-start.ensures c.key_in-key.ensures.0 c.in_ok-load_volume.ensures)
    ∙ ap (λ (n : ℕ). load p a.counts.now f ((a.k + 1) * p - (l.v + 1) * p) n c.load_volume.new.maps c.load_volume.new.owners) k

pub returns : goal.returns
returns c =
    let l = c.loop-v in
    let a = c.args in
    let p = a.g.p in
    let e : l.v ≡ a.k + 1 = omega arith in
    run_done _ _ _ ((a.k + 1) * p - l.v * p) (l.v * p) l.maps l.owners l.invariant (rw e (omega arith))
