-- Map blocks on a device: those of a formatting each in its place, and one that a claim or a release stores, with what is read back of it.
-- Assumes nothing.
use Prim.Native.Nat.{ℕ, ◌+◌, ◌-◌, ◌*◌, ◌/◌, ◌%◌, ◌≤◌, ◌<◌}
use mathlib.Core.Path.{◌≡◌, refl, sym, ap, ap₂, ◌∙◌}
use mathlib.Core.List.{List}
use mathlib.Core.Logic.{inl, inr, ⊎_elim}
use native.Mathlib.Omega.{arith}
use native.Mathlib.Nat.{add-zero, div-add-mod', mod-lt, mul_comm, mul-le-mul_left, mul-le-mul_right}
use lib.ListN.{length}
use lib.Dec.{ltb}
use borrow.Author.Tests.{lt-ltb}
use Rattle.ctr_spec.specs.CounterMode.{ctr}
use Rattle.model.specs.declared.Geometry.{Geometry}
use Rattle.model.specs.Parts.{choose, part, overlay}
use Rattle.model.specs.Geometry.{Allowed, per_block, map_blocks, header_blocks, device_length, number_at, header_of, map_start, map_block_start}
use Rattle.model.specs.Geometry.{slice_start, iv_start, block_start}
use Rattle.model.specs.Session.{entry, unmapped}
use Rattle.model.specs.Opening.{stored_entry}
use Rattle.model.specs.Read.{deciphered}
use Rattle.model.specs.Maps.{map_text, map_block, map_bytes}
use Rattle.model.specs.Conditions.{EntryFits, Enough}
use Rattle.model.proofs.Parts.{part_length, part_part, joined_length, joined_part, overlay_whole}
use Rattle.model.proofs.Bounds.{b_bounds, per_block_least, map_block_of_lem, map_fits}
use Rattle.model.proofs.MapBlocks.{map_block_length}
use Rattle.model.proofs.Seals.{header_block, map-entry}
use Rattle.model.proofs.Tests.{three}
use Rattle.guarantees.proofs.Places.{Apart, overlay-apart, slice_first}
use Rattle.guarantees.proofs.Blocks.{deciphered-same}

-- ---- the map blocks of a volume

module _ (maps : List ℕ) (g : Geometry) (ok : Allowed g) where
  module _ (key : List ℕ) (i : ℕ) where
    module _ (tape : List ℕ) (at : ℕ) (enough : Enough (length tape) at (16 * map_blocks g)) where
      abbrev iv : ℕ → List ℕ
      iv t = part (at + 16 * t) 16 tape

      iv_length : (t : ℕ) → t < map_blocks g → length (iv t) ≡ 16
      iv_length t l = part_length tape (at + 16 * t) 16 (omega arith)

      each_length : (t : ℕ) → t < map_blocks g → length (map_block maps g key i t (iv t)) ≡ g.b
      each_length t l = map_block_length maps g i t ok key (iv t) (iv_length t l)

      pub map_bytes_length : length (map_bytes maps g key tape at i) ≡ g.b * map_blocks g
      unfolding map_bytes
      map_bytes_length =
          joined_length g.b (map_blocks g) (λ t. map_block maps g key i t (iv t)) each_length ∙ mul_comm (map_blocks g) g.b

      -- Where they stand on a device, each block stands in its place.
      pub map_block_stands : (device : List ℕ) → part (map_start g i) (g.b * map_blocks g) device ≡ map_bytes maps g key tape at i
          → (t : ℕ) → t < map_blocks g → part (map_start g i + g.b * t) g.b device ≡ map_block maps g key i t (iv t)
      unfolding map_bytes
      map_block_stands device stand t l =
          sym (part_part device (map_start g i) (g.b * map_blocks g) (g.b * t) g.b (omega (arith, mul-le-mul_left g.b l)))
          ∙ ap (part (g.b * t) g.b) stand
          ∙ ap (λ (y : ℕ). part y g.b (map_bytes maps g key tape at i)) (mul_comm g.b t)
          ∙ joined_part g.b (map_blocks g) (λ n. map_block maps g key i n (iv n)) each_length t l

-- ---- one map block

module _ (g : Geometry) (ok : Allowed g) where
  abbrev c : ℕ
  c = per_block g

  abbrev m : ℕ
  m = map_blocks g

  -- An entry is read from its own map block alone.
  stored_entry_same : (key s s' : List ℕ) (i σ : ℕ) → σ < g.p
      → part (map_block_start g i (σ / c)) g.b s ≡ part (map_block_start g i (σ / c)) g.b s'
      → stored_entry g key (header_of g s i) σ ≡ stored_entry g key (header_of g s' i) σ
  unfolding stored_entry
  stored_entry_same key s s' i σ lσ e =
      ap₂ (λ (iv text : List ℕ). number_at (4 * (σ % c)) (ctr key iv text))
      (ap (λ (y : ℕ). part y 16 (header_of g s i)) (sym (add-zero from))
      ∙ within 0 16 (omega (arith, wide))
      ∙ ap (λ (y : ℕ). part y 16 (header_of g s' i)) (add-zero from))
      (within 16 (g.b - 16) (omega (arith, wide)))
    where
      wide : 1024 ≤ g.b
      wide = (b_bounds g ok).0

      from : ℕ
      from = g.b * (1 + σ / c)

      same : part from g.b (header_of g s i) ≡ part from g.b (header_of g s' i)
      same = header_block g s i (σ / c) (map_block_of_lem g ok σ lσ) ∙ e ∙ sym (header_block g s' i (σ / c) (map_block_of_lem g ok σ lσ))

      within : (x n : ℕ) → x + n ≤ g.b → part (from + x) n (header_of g s i) ≡ part (from + x) n (header_of g s' i)
      within x n fits =
          sym (part_part (header_of g s i) from g.b x n fits) ∙ ap (part x n) same ∙ part_part (header_of g s' i) from g.b x n fits

  -- Two map blocks lie apart.
  blocks_apart : (i j t u : ℕ) → t < m → u < m → (i ≡ j → t ≡ u → ⊥) → Apart (map_block_start g i t) g.b (map_block_start g j u) g.b
  unfolding map_start
  blocks_apart i j t u lt lu ne =
      ⊎_elim (λ l. inl (omega (arith, volumes l, mul-le-mul_left g.b lt)))
      (⊎_elim (λ e. ⊎_elim (λ l. inl (rw e (omega (arith, blocks {v = t} {w = u} l))))
      (⊎_elim (λ q. absurd (ne e q)) (λ l. inr (rw e (omega (arith, blocks {v = u} {w = t} l))))) (three t u))
      (λ l. inr (omega (arith, volumes l, mul-le-mul_left g.b lu))))
      (three i j)
    where
      volumes : {v w : ℕ} → v < w → g.b * ((v + 1) * (1 + m)) ≤ g.b * (w * (1 + m))
      volumes {v} {w} l = mul-le-mul_left g.b (mul-le-mul_right {m = v + 1} {n = w} (1 + m) (omega arith))

      blocks : {v w : ℕ} → v < w → g.b * (v + 1) ≤ g.b * w
      blocks {v} {w} l = mul-le-mul_left {m = v + 1} {n = w} g.b (omega arith)

  -- ---- stored on a device

  module _ (device : List ℕ) (long : length device ≡ device_length g) (maps key iv : List ℕ) (ivl : length iv ≡ 16) (i t : ℕ) (li : i < 15)
      (lt : t < m) where
    abbrev at : ℕ
    at = map_block_start g i t

    abbrev device' : List ℕ
    device' = overlay device at (map_block maps g key i t iv)

    whole : length (map_block maps g key i t iv) ≡ g.b
    whole = map_block_length maps g i t ok key iv ivl

    -- What is read back is what the table has.
    pub block_entry : (σ : ℕ) → σ < g.p → σ / c ≡ t → EntryFits g (entry maps g i σ)
        → stored_entry g key (header_of g device' i) σ ≡ entry maps g i σ
    unfolding map_block map_text
    block_entry σ lσ here fits =
        ap (stored_entry g key (header_of g device' i)) (sym digits)
        ∙ map-entry g ok device' key iv (λ e. choose (ltb (t * c + e) g.p) (entry maps g i (t * c + e)) unmapped) i t (σ % c) lt
        (mod-lt σ (per_block_least g ok)) ivl (rw this (⊎_elim (λ e. omega arith) (λ e. omega (arith, ok.slices_most)) fits))
        (overlay_whole device at _ g.b whole (omega (arith, map_fits g ok i t (omega arith) lt)))
        ∙ this
      where
        digits : t * c + σ % c ≡ σ
        digits = rw (← here) (div-add-mod' σ c)

        this : choose (ltb (t * c + σ % c) g.p) (entry maps g i (t * c + σ % c)) unmapped ≡ entry maps g i σ
        this = rw (digits, lt-ltb σ g.p lσ) refl

    -- Every other block reads as before.
    pub block_other : (key' : List ℕ) (j σ : ℕ) → σ < g.p → (j ≡ i → σ / c ≡ t → ⊥)
        → stored_entry g key' (header_of g device' j) σ ≡ stored_entry g key' (header_of g device j) σ
    block_other key' j σ lσ ne =
        stored_entry_same key' device' device j σ lσ
        (overlay-apart device at _ (map_block_start g j (σ / c)) g.b g.b whole
        (blocks_apart j i (σ / c) t (map_block_of_lem g ok σ lσ) lt ne))

    -- What lies apart from the volume's maps stays, and so do the slices.
    pub maps_kept : (a n : ℕ) → Apart a n (map_start g i) (g.b * m) → part a n device' ≡ part a n device
    maps_kept a n out =
        overlay-apart device at _ a n g.b whole
        (⊎_elim (λ l. inl (omega arith)) (λ l. inr (omega (arith, mul-le-mul_left g.b lt))) out)

    slices_kept : (a n : ℕ) → slice_start g 0 ≤ a → part a n device' ≡ part a n device
    unfolding map_start slice_start header_blocks
    slices_kept a n l = maps_kept a n (inr (omega (arith, mul-le-mul_left g.b (mul-le-mul_right (1 + m) li))))

    pub deciphered_kept : (key' : List ℕ) (ψ j : ℕ) → deciphered g key' ψ j device' ≡ deciphered g key' ψ j device
    unfolding iv_start block_start
    deciphered_kept key' ψ j =
        deciphered-same g key' ψ j device' device
        (λ l. (
          slices_kept (iv_start g ψ j) 16 (omega (arith, slice_first g ψ)),
          slices_kept (block_start g ψ j) g.b (omega (arith, slice_first g ψ)),
        ))
