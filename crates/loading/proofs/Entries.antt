-- Laws of the entries that stand in a header's map blocks. Assumes nothing.
use Prim.Native.Nat.{ℕ, ◌+◌, ◌-◌, ◌*◌, ◌/◌, ◌%◌, ◌≤◌, ◌<◌}
use mathlib.Core.Path.{◌≡◌, sym, ap, ap₂, ◌∙◌}
use mathlib.Core.List.{List}
use native.Mathlib.Nat.{mod-lt, mul-le-mul_left, div-add-mod', le-div_iff_mul-le}
use native.Mathlib.Omega.{arith}
use lib.Arith.{digits_div, digits_mod}
use lib.ListN.{length, take, drop}
use Rattle.ctr_spec.specs.CounterMode.{ctr}
use Rattle.model.specs.declared.Geometry.{Geometry}
use Rattle.model.specs.Parts.{part}
use Rattle.model.specs.Geometry.{Allowed, per_block, map_blocks, device_length, number_at, header_start, header_of}
use Rattle.model.specs.Opening.{stored_entry, map_entries}
use Rattle.model.proofs.Bounds.{b_bounds, per_block_least, map_block_of_lem}
use Rattle.chaining.proofs.Headers.{part_header}

module _ (g : Geometry) where
  -- Map block t of a header, deciphered.
  abbrev pub block_text : (key header : List ℕ) → ℕ → List ℕ
  block_text key header t = ctr key (part (g.b * (1 + t)) 16 header) (part (g.b * (1 + t) + 16) (g.b - 16) header)

  -- Entry e of map block t is entry t * c + e of the volume.
  pub stored_entry_block : (key header : List ℕ) (v t e : ℕ) → e < per_block g → t * per_block g + e < g.p
      → stored_entry g key header ((v * g.p + (t * per_block g + e)) % g.p) ≡ number_at (4 * e) (block_text key header t)
  unfolding stored_entry
  stored_entry_block key header v t e l k =
      ap (λ (σ : ℕ). number_at (4 * (σ % per_block g)) (block_text key header (σ / per_block g))) (digits_mod v k)
      ∙ ap₂ (λ (x y : ℕ). number_at (4 * x) (block_text key header y)) (digits_mod t l) (digits_div t l)

  module _ (ok : Allowed g) where
    -- Each map block begins within the entries of a volume, and they end with the last.
    pub block_begins : (t : ℕ) → t < map_blocks g → t * per_block g < g.p
    unfolding map_blocks
    block_begins t l =
        let one = per_block_least g ok in
        omega (arith, one, (le-div_iff_mul-le {k = per_block g} {x = t + 1} {y = g.p + (per_block g - 1)} one).0 (omega arith))

    pub blocks_end : g.p ≤ map_blocks g * per_block g
    unfolding map_blocks
    blocks_end =
        let y : ℕ = g.p + (per_block g - 1) in
        let one = per_block_least g ok in
        omega (arith, one, div-add-mod' y (per_block g), mod-lt y one)

    -- A map block ends within its header.
    pub map_block_fits : (t : ℕ) → t < map_blocks g → g.b * (1 + t) + g.b ≤ g.b * (1 + map_blocks g)
    map_block_fits t l = omega (arith, mul-le-mul_left {m = 1 + t + 1} {n = 1 + map_blocks g} g.b (omega arith))

    pub block_lies : (t header : ℕ) → t < map_blocks g → g.b * (1 + map_blocks g) ≤ header
        → (g.b * (1 + t) + g.b ≤ header) × (1024 ≤ g.b) × (g.b ≤ 4096)
    block_lies t header l h = let b = b_bounds g ok in (omega (arith, map_block_fits t l), b.0, b.1)

    -- An entry is the same where more of the device follows its header.
    stored_entry_longer : (key device : List ℕ) (v : ℕ) → v ≤ 14 → length device ≡ device_length g → {s : ℕ} → s ≡ header_start g v → (σ : ℕ) → σ < g.p
        → stored_entry g key (take (length device - s) (drop s device)) σ ≡ stored_entry g key (header_of g device v) σ
    unfolding stored_entry
    stored_entry_longer key device v lv e {s} q σ l =
        let t : ℕ = σ / per_block g in
        let inside = map_block_fits t (map_block_of_lem g ok σ l) in
        let same_part = part_header g ok device v lv e q in
        ap₂ (λ (i x : List ℕ). number_at (4 * (σ % per_block g)) (ctr key i x))
        (same_part (g.b * (1 + t)) 16 (omega (arith, b_bounds g ok)))
        (same_part (g.b * (1 + t) + 16) (g.b - 16) (omega (arith, b_bounds g ok)))

    -- The entries of volume v, from the part of the device that starts at its header.
    pub map_entries_volume : (device keys : List ℕ) (v : ℕ) → v ≤ 14 → length device ≡ device_length g → {s : ℕ} → s ≡ header_start g v
        → (i : ℕ) → v * g.p ≤ i → i < v * g.p + g.p
        → stored_entry g (part (32 * v) 32 keys) (take (length device - s) (drop s device)) (i % g.p) ≡ map_entries g (header_of g device) keys i
    map_entries_volume device keys v lv e {s} q i u h =
        let k : i ≡ v * g.p + (i - v * g.p) = omega arith in
        let d : i / g.p ≡ v = ap (λ (x : ℕ). x / g.p) k ∙ digits_div v (omega arith) in
        stored_entry_longer (part (32 * v) 32 keys) device v lv e q (i % g.p) (mod-lt i ok.slices_least)
        ∙ ap (λ (n : ℕ). stored_entry g (part (32 * n) 32 keys) (header_of g device n) (i % g.p)) (sym d)
