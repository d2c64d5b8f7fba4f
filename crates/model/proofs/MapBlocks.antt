-- A map block: its length, its entries as those of a row of the map table, the mark past the last, and its bytes where nothing is
-- mapped. Assumes nothing.
use Prim.Native.Nat.{ℕ, zero, suc, ◌+◌, ◌-◌, ◌*◌, ◌%◌, ◌^◌, ◌≤◌, ◌<◌}
use mathlib.Core.Path.{◌≡◌, refl, sym, ap, ap₂, ◌∙◌}
use mathlib.Core.List.{List, [], ◌∷◌, ◌++◌}
use mathlib.Core.Logic.{⊎_elim}
use native.Mathlib.Nat.{zero-add, mod-eq_of_lt}
use lib.Arith.{digits_lt}
use native.Mathlib.Omega.{arith}
use lib.Dec.{ltb}
use lib.ListN.{length, get_or, drop, replicate, length-append, get_or-replicate, get_or-eq_default}
use lib.Seq.{get_or-take, get_or-drop}
use borrow.Author.Tests.{lt-ltb, le-ltb}
use Rattle.block.specs.Bytes.{number, big_endian}
use Rattle.block.proofs.Bytes.{number-big_endian, big_endian-length}
use Rattle.ctr_spec.specs.CounterMode.{ctr}
use Rattle.ctr_spec.proofs.Stream.{ctr_length}
use Rattle.model.specs.declared.Geometry.{Geometry}
use Rattle.model.specs.Parts.{choose, part, joined}
use Rattle.model.specs.Geometry.{Allowed, per_block, four_bytes}
use Rattle.model.specs.Session.{entry, unmapped}
use Rattle.model.specs.Opening.{no_maps}
use Rattle.model.specs.Maps.{map_text, map_block}
use Rattle.model.proofs.Parts.{joined_length, joined_ext, joined_replicate, part_length}
use Rattle.model.proofs.Tests.{below}
use Rattle.model.proofs.Bounds.{b_bounds, entries_fill}

-- A number below 2^32 from its four bytes.
pub four_bytes-number : (x : ℕ) → x < 256 ^ 4 → number (four_bytes x) ≡ x
four_bytes-number x l = number-big_endian 0 4 x ∙ zero-add (x % 256 ^ 4) ∙ mod-eq_of_lt l

-- Within a list the default does not matter.
pub get_or_inside : (l : List ℕ) (n d d' : ℕ) → n < length l → get_or l n d ≡ get_or l n d'
get_or_inside [] n d d' h = absurd (omega arith)
get_or_inside (x ∷ l) zero d d' h = refl
get_or_inside (x ∷ l) (suc n) d d' h = get_or_inside l n d d' (omega arith)

module _ (maps : List ℕ) (g : Geometry) (i t : ℕ) where
  -- Entry e of map block t of volume i, as bytes.
  abbrev pub entry_bytes : ℕ → List ℕ
  entry_bytes e = four_bytes (choose (ltb (t * per_block g + e) g.p) (entry maps g i (t * per_block g + e)) unmapped)

  module _ (ok : Allowed g) where
    pub map_text_length : length (map_text maps g i t) ≡ g.b - 16
    unfolding map_text
    map_text_length = joined_length 4 (per_block g) entry_bytes (λ j h. big_endian-length 4 _) ∙ entries_fill g ok

    pub map_block_length : (key iv : List ℕ) → length iv ≡ 16 → length (map_block maps g key i t iv) ≡ g.b
    unfolding map_block
    map_block_length key iv e =
        length-append iv _ ∙ ap₂ (λ (x y : ℕ). x + y) e (ctr_length key iv (map_text maps g i t) ∙ map_text_length) ∙ omega (arith, b_bounds g ok)

  -- Row i of the map table, the mark past its end.
  module _ (l : i * g.p + g.p ≤ length maps) where
    abbrev row : List ℕ
    row = part (i * g.p) g.p maps

    entry_row : (σ : ℕ) → choose (ltb σ g.p) (entry maps g i σ) unmapped ≡ get_or row σ unmapped
    entry_row σ = ⊎_elim inside past (below σ g.p)
      where
        inside : σ < g.p → choose (ltb σ g.p) (entry maps g i σ) unmapped ≡ get_or row σ unmapped
        inside h =
            rw (lt-ltb σ g.p h)
            (get_or_inside maps (i * g.p + σ) 0 unmapped (omega arith)
            ∙ sym (get_or-take g.p (drop (i * g.p) maps) σ unmapped h ∙ get_or-drop (i * g.p) maps σ unmapped))

        past : g.p ≤ σ → choose (ltb σ g.p) (entry maps g i σ) unmapped ≡ get_or row σ unmapped
        past h = rw (le-ltb σ g.p h) (sym (get_or-eq_default row unmapped (omega (arith, part_length maps (i * g.p) g.p l))))

    pub map_block_row : (key iv : List ℕ)
        → map_block maps g key i t iv ≡ iv ++ ctr key iv (joined (per_block g) (λ e. four_bytes (get_or row (t * per_block g + e) unmapped)))
    unfolding map_block map_text
    map_block_row key iv =
        ap (λ (text : List ℕ). iv ++ ctr key iv text)
        (joined_ext (per_block g) entry_bytes _ (λ e h. ap four_bytes (entry_row (t * per_block g + e))))

-- ---- a map that holds nothing

-- The marks of a map block are bytes FF.
pub marks_joined : (g : Geometry) → Allowed g → joined (per_block g) (λ e. four_bytes unmapped) ≡ replicate (g.b - 16) 0xFF
unfolding big_endian
marks_joined g ok = joined_replicate (per_block g) 4 0xFF ∙ ap (λ (n : ℕ). replicate n 0xFF) (entries_fill g ok)

-- Every entry of a map that holds nothing is the mark, and so all bytes of its blocks are FF.
pub map_text_marks : (g : Geometry) (i t : ℕ) → i < 15 → map_text (no_maps g) g i t ≡ joined (per_block g) (λ e. four_bytes unmapped)
unfolding map_text
map_text_marks g i t l =
    joined_ext (per_block g) (entry_bytes (no_maps g) g i t) (λ e. four_bytes unmapped) (λ e h. ap four_bytes (mark (t * per_block g + e)))
  where
    mark : (σ : ℕ) → choose (ltb σ g.p) (entry (no_maps g) g i σ) unmapped ≡ unmapped
    mark σ =
        ⊎_elim (λ h. rw (lt-ltb σ g.p h) (get_or-replicate (15 * g.p) (i * g.p + σ) unmapped 0 (digits_lt l h)))
        (λ h. rw (le-ltb σ g.p h) refl) (below σ g.p)

pub map_text-empty : (g : Geometry) → Allowed g → (i t : ℕ) → i < 15 → map_text (no_maps g) g i t ≡ replicate (g.b - 16) 0xFF
map_text-empty g ok i t l = map_text_marks g i t l ∙ marks_joined g ok
