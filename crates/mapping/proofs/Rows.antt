-- Laws of the map blocks of a row: one entry or block more, and those of the model. Assumes nothing.
use Prim.Native.Nat.{ℕ, ◌+◌, ◌-◌, ◌*◌, ◌/◌, ◌^◌, ◌≤◌, ◌<◌}
use mathlib.Core.Path.{◌≡◌, refl, sym, ap, ap₂, subst, ◌∙◌}
use mathlib.Core.List.{List, [], ◌++◌}
use native.Mathlib.Nat.{zero-add}
use native.Mathlib.Omega.{arith}
use lib.ListN.{length, length-append}
use Rattle.block.proofs.Bytes.{big_endian-length}
use Rattle.ctr_spec.specs.CounterMode.{ctr}
use Rattle.ctr_spec.proofs.Stream.{ctr_length}
use Rattle.model.specs.declared.Geometry.{Geometry}
use Rattle.model.specs.Parts.{part, overlay, joined}
use Rattle.model.specs.Geometry.{Allowed, per_block, map_blocks, device_length, map_start}
use Rattle.model.specs.Opening.{no_maps}
use Rattle.model.specs.Maps.{map_block, map_bytes}
use Rattle.model.proofs.Parts.{part_length, joined_length, joined_ext}
use Rattle.model.proofs.Bounds.{b_bounds, entries_fill, entries_small, map_block_of_lem, map_fits, device_length_small}
use Rattle.model.proofs.MapBlocks.{map_block_row, map_text_marks}
use Rattle.places.proofs.Parts.{overlay_joined, overlay_all}
use Rattle.mapping.specs.Rows.{row_entry, row_text, row_block, row_bytes}

-- ---- places

-- The entries before those of a map block are few.
pub entries_few : (g : Geometry) → Allowed g → (t : ℕ) → t < map_blocks g → {n : ℕ} → n ≡ per_block g → (n ≤ 1020) × (t * n ≤ 17 * 1020)
entries_few g ok t l {n} e =
    (omega (arith, b_bounds g ok, e), subst (λ (m : ℕ). t * m ≤ 17 * 1020) (sym e) (entries_small g ok t l))

-- Map block t of a volume lies on the device.
pub record MapLies (g : Geometry) (t start long : ℕ) : Type 0 where
  pub inside : t < map_blocks g
  pub end : start + t * g.b + g.b ≤ long
  pub small : long < 2 ^ 63

pub map_lies : (g : Geometry) → Allowed g → (volume t : ℕ) → volume ≤ 14 → {start long m : ℕ} → start ≡ map_start g volume → long ≡ device_length g
    → m ≡ map_blocks g → t < m → MapLies g t start long
map_lies g ok volume t v es el em l =
    let inside : t < map_blocks g = omega (arith, em) in
    record {
      inside = inside;
      end = omega (arith, map_fits g ok volume t v inside, es, el);
      small = omega (arith, device_length_small g ok, el);
    }

-- So does the one that has the entry of a logical slice.
pub block_lies : (g : Geometry) → Allowed g → (volume logical : ℕ) → volume ≤ 14 → logical < g.p → {n start long : ℕ} → n ≡ per_block g
    → start ≡ map_start g volume → long ≡ device_length g → MapLies g (logical / n) start long
block_lies g ok volume logical v l {n} e es el =
    let t_lt : logical / n < map_blocks g = subst (λ (k : ℕ). logical / k < map_blocks g) (sym e) (map_block_of_lem g ok logical l) in
    map_lies g ok volume (logical / n) v es el refl t_lt

-- ---- the entries of a map block

module _ (row : List ℕ) (t : ℕ) where
  pub row_text_turn : (c : ℕ) (buf : List ℕ) (e : ℕ)
      → overlay (overlay buf 0 (joined e (row_entry row c t))) (e * 4) (row_entry row c t e) ≡ overlay buf 0 (joined (e + 1) (row_entry row c t))
  row_text_turn c buf e =
      ap (λ (at : ℕ). overlay (overlay buf 0 (joined e (row_entry row c t))) at (row_entry row c t e)) (sym (zero-add (e * 4)))
      ∙ overlay_joined buf 0 4 e (row_entry row c t) (λ j h. big_endian-length 4 _)

  module _ (g : Geometry) (ok : Allowed g) where
    row_text_length : length (row_text row g t) ≡ g.b - 16
    unfolding row_text
    row_text_length = joined_length 4 (per_block g) (row_entry row (per_block g) t) (λ j h. big_endian-length 4 _) ∙ entries_fill g ok

    pub row_text_done : (c e : ℕ) (buf : List ℕ) → c ≡ per_block g → e ≡ c → length buf ≡ g.b - 16
        → overlay buf 0 (joined e (row_entry row c t)) ≡ row_text row g t
    unfolding row_text
    row_text_done c e buf ec ee el = rw (ee, ec) (overlay_all buf (row_text row g t) (row_text_length ∙ sym el))

    row_block_length : (key iv : List ℕ) → length iv ≡ 16 → length (row_block row g key t iv) ≡ g.b
    row_block_length key iv e =
        length-append iv _ ∙ ap₂ (λ (x y : ℕ). x + y) e (ctr_length key iv (row_text row g t) ∙ row_text_length) ∙ omega (arith, b_bounds g ok)

-- ---- the map blocks of a volume

module _ (row : List ℕ) (g : Geometry) (key tape : List ℕ) (at : ℕ) where
  -- Map block t, its IV from the tape from a place on.
  abbrev pub block_bytes : ℕ → List ℕ
  block_bytes t = row_block row g key t (part (at + 16 * t) 16 tape)

  pub row_bytes_turn : (ok : Allowed g) (device : List ℕ) (start t : ℕ) → at + 16 * t ≤ length tape
      → overlay (overlay device start (joined t block_bytes)) (start + t * g.b) (block_bytes t) ≡ overlay device start (joined (t + 1) block_bytes)
  row_bytes_turn ok device start t h =
      overlay_joined device start g.b t block_bytes
      (λ j l. row_block_length row j g ok key (part (at + 16 * j) 16 tape) (part_length tape (at + 16 * j) 16 (omega arith)))

-- ---- the model's map blocks

-- Row i of the map table gives a map block of volume i.
pub row_block-map : (maps : List ℕ) (g : Geometry) (key : List ℕ) (i t : ℕ) (iv : List ℕ) → i * g.p + g.p ≤ length maps
    → row_block (part (i * g.p) g.p maps) g key t iv ≡ map_block maps g key i t iv
unfolding row_text
row_block-map maps g key i t iv l = sym (map_block_row maps g i t l key iv)

-- A row of no entry gives the map blocks of a map that holds nothing.
pub row_bytes_none : (g : Geometry) (key tape : List ℕ) (at i : ℕ) → i < 15 → row_bytes [] g key tape at ≡ map_bytes (no_maps g) g key tape at i
unfolding row_bytes row_text map_bytes map_block
row_bytes_none g key tape at i l =
    joined_ext (map_blocks g) _ _ (λ t h.
    ap (λ (text : List ℕ). part (at + 16 * t) 16 tape ++ ctr key (part (at + 16 * t) 16 tape) text) (sym (map_text_marks g i t l)))
