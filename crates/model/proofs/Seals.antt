-- Cells, headers and map blocks that stand on a device as document 01 lays them out open to what was sealed. Assumes nothing.
use Prim.Native.Nat.{ℕ, ◌+◌, ◌-◌, ◌*◌, ◌^◌, ◌≤◌, ◌<◌}
use mathlib.Core.Path.{◌≡◌, sym, ap, ap₂, ◌∙◌}
use mathlib.Core.List.{List, [], ◌∷◌, ◌++◌}
use native.Mathlib.Nat.{add-zero, add_assoc, mul_comm, mul-le-mul_left}
use native.Mathlib.Omega.{arith}
use lib.ListN.{length, length-append}
use lib.Arith.{digits_div, digits_mod}
use Rattle.block.specs.Bytes.{number}
use Rattle.block.proofs.Bytes.{big_endian-length}
use Rattle.ctr_spec.specs.CounterMode.{ctr}
use Rattle.ctr_spec.proofs.Stream.{ctr_twice, ctr_length}
use Rattle.gcm_spec.specs.Gcm.{Text, gcm_text, gcm_tag, gcm_open}
use Rattle.gcm_spec.proofs.Gctr.{text_twice, text_length, tag_length}
use Rattle.gcm_spec.proofs.Same.{open_sealed, open_right}
use Rattle.model.specs.declared.Geometry.{Geometry}
use Rattle.model.specs.Parts.{part, joined}
use Rattle.model.specs.Geometry.{Allowed, per_block, map_blocks, number_at, four_bytes, cell_start, cell_of, header_start, header_of, map_start, map_block_start}
use Rattle.model.specs.Opening.{open_cell, open_header, stored_entry}
use Rattle.model.specs.Format.{sealed}
use Rattle.model.specs.Theorems.{HeaderText, Sealed}
use Rattle.model.proofs.Bounds.{b_bounds, entries_fill}
use Rattle.model.proofs.Parts.{part_right, part_first, part_next, part_last, part_part, joined_length, joined_part}
use Rattle.model.proofs.MapBlocks.{four_bytes-number}

-- ---- what GCM sealed

-- A window on a device from a place on that is wide enough for IV, ciphertext and tag.
module _ (key : List ℕ) (i at n w : ℕ) (device text : List ℕ) (wide : 28 + n ≤ w) where
  abbrev window : List ℕ
  window = part at w device

  abbrev aad : List ℕ
  aad = i ∷ []

  -- The parts of the window by their places on the device.
  iv_is : part 0 12 window ≡ part at 12 device
  iv_is = part_part device at w 0 12 (omega arith) ∙ ap (λ (y : ℕ). part y 12 device) (add-zero at)

  cipher_is : part 12 n window ≡ part (at + 12) n device
  cipher_is = part_part device at w 12 n (omega arith)

  tag_is : part (12 + n) 16 window ≡ part (at + 12 + n) 16 device
  tag_is = part_part device at w (12 + n) 16 (omega arith) ∙ ap (λ (y : ℕ). part y 16 device) (sym (add_assoc at 12 n))

  abbrev Opens : Type 0
  Opens = gcm_open key (part 0 12 window) aad (part 12 n window) (part (12 + n) 16 window) ≡ Text text

  sealed_opens : Sealed key i at n device text → Opens
  sealed_opens q =
      rw (iv_is, cipher_is, tag_is, q.tag, q.cipher) (open_sealed key (part at 12 device) aad text)

  opens_sealed : Opens → Sealed key i at n device text
  opens_sealed e =
      let q = open_right _ _ _ _ _ text (rw (iv_is, cipher_is, tag_is) at e) in
      record { cipher = sym (rw q.0 (text_twice key (part at 12 device) (part (at + 12) n device))); tag = q.1 }

-- A text of n bytes as formatting seals it, under an IV of 12 bytes.
module _ (key iv : List ℕ) (i n : ℕ) (text : List ℕ) (ivl : length iv ≡ 12) (textl : length text ≡ n) where
  abbrev ciphertext : List ℕ
  ciphertext = gcm_text key iv text

  abbrev tag : List ℕ
  tag = gcm_tag key iv (i ∷ []) ciphertext

  ciphertext_length : length ciphertext ≡ n
  ciphertext_length = text_length key iv text ∙ textl

  pub sealed_length : length (sealed key iv i text) ≡ 28 + n
  unfolding sealed
  sealed_length =
      omega (arith, length-append iv (ciphertext ++ tag), length-append ciphertext tag, ciphertext_length, tag_length key iv (i ∷ []) ciphertext)

  -- From a place on where it stands is what Sealed says, with its IV.
  module _ (at : ℕ) (device : List ℕ) (stands : part at (28 + n) device ≡ sealed key iv i text) where
    pub stands_iv : part at 12 device ≡ iv
    unfolding sealed
    stands_iv = sym (iv_is key i at n (28 + n) device text (omega arith)) ∙ ap (part 0 12) stands ∙ part_first iv _ 12 ivl

    stands_cipher : part (at + 12) n device ≡ ciphertext
    unfolding sealed
    stands_cipher =
        sym (cipher_is key i at n (28 + n) device text (omega arith))
        ∙ ap (part 12 n) stands
        ∙ part_next iv ciphertext tag 12 n ivl ciphertext_length

    stands_tag : part (at + 12 + n) 16 device ≡ tag
    unfolding sealed
    stands_tag =
        sym (tag_is key i at n (28 + n) device text (omega arith))
        ∙ ap (part (12 + n) 16) stands
        ∙ part_right iv (ciphertext ++ tag) 12 ivl n 16
        ∙ part_last ciphertext tag n 16 ciphertext_length (tag_length key iv (i ∷ []) ciphertext)

    pub stands_sealed : Sealed key i at n device text
    stands_sealed = record { cipher = rw (stands_iv, stands_cipher); tag = rw (stands_iv, stands_cipher, stands_tag) }

pub cell_opens : (device key vmk : List ℕ) (i : ℕ) → Sealed key i (cell_start i) 32 device vmk → open_cell key i (cell_of device i) ≡ Text vmk
cell_opens device key vmk i = sealed_opens key i (cell_start i) 32 60 device vmk (omega arith)

pub cell_sealed : (device key vmk : List ℕ) (i : ℕ) → open_cell key i (cell_of device i) ≡ Text vmk → Sealed key i (cell_start i) 32 device vmk
cell_sealed device key vmk i = opens_sealed key i (cell_start i) 32 60 device vmk (omega arith)

module _ (g : Geometry) (ok : Allowed g) (device vmk text : List ℕ) (i : ℕ) where
  header_wide : 28 + 72 ≤ g.b * (1 + map_blocks g)
  header_wide = omega (arith, b_bounds g ok)

  pub header_opens : Sealed vmk (16 + i) (header_start g i) 72 device text → open_header vmk i (header_of g device i) ≡ Text text
  header_opens = sealed_opens vmk (16 + i) (header_start g i) 72 (g.b * (1 + map_blocks g)) device text header_wide

  pub header_sealed : open_header vmk i (header_of g device i) ≡ Text text → Sealed vmk (16 + i) (header_start g i) 72 device text
  header_sealed = opens_sealed vmk (16 + i) (header_start g i) 72 (g.b * (1 + map_blocks g)) device text header_wide

pub header_text : (vek below : List ℕ) (n s : ℕ) → length vek ≡ 32 → length below ≡ 32 → n < 256 ^ 4 → s < 256 ^ 4
    → HeaderText (vek ++ (below ++ (four_bytes n ++ four_bytes s))) vek below n s
header_text vek below n s e f ln ls =
    record {
      first = part_first vek _ 32 e;
      second = part_next vek below _ 32 32 e f;
      third =
          ap number (part_right vek _ 32 e 32 4 ∙ part_next below (four_bytes n) (four_bytes s) 32 4 f (big_endian-length 4 n))
          ∙ four_bytes-number n ln;
      fourth =
          ap number (part_right vek _ 32 e 36 4 ∙ part_right below _ 32 f 4 4
          ∙ part_last (four_bytes n) (four_bytes s) 4 4 (big_endian-length 4 n) (big_endian-length 4 s))
          ∙ four_bytes-number s ls;
    }

-- ---- a map block

-- The IV, then entries of four bytes in counter mode.
module _ (g : Geometry) (ok : Allowed g) (vek iv : List ℕ) (entries : ℕ → ℕ) (ivl : length iv ≡ 16) where
  abbrev text : List ℕ
  text = joined (per_block g) (λ n. four_bytes (entries n))

  abbrev block : List ℕ
  block = iv ++ ctr vek iv text

  entries_length : length text ≡ g.b - 16
  entries_length = joined_length 4 (per_block g) _ (λ n l. big_endian-length 4 (entries n)) ∙ entries_fill g ok

  pub block_iv : part 0 16 block ≡ iv
  block_iv = part_first iv (ctr vek iv text) 16 ivl

  block_cipher : part 16 (g.b - 16) block ≡ ctr vek iv text
  block_cipher = part_last iv (ctr vek iv text) 16 (g.b - 16) ivl (ctr_length vek iv text ∙ entries_length)

  pub block_entry : (e : ℕ) → e < per_block g → entries e < 256 ^ 4 → number_at (4 * e) (ctr vek iv (part 16 (g.b - 16) block)) ≡ entries e
  block_entry e l fits =
      ap (λ (c : List ℕ). number_at (4 * e) (ctr vek iv c)) block_cipher
      ∙ ap (number_at (4 * e)) (ctr_twice vek iv text)
      ∙ ap (λ (y : ℕ). number (part y 4 text)) (mul_comm 4 e)
      ∙ ap number (joined_part 4 (per_block g) _ (λ n h. big_endian-length 4 (entries n)) e l)
      ∙ four_bytes-number (entries e) fits

sealed-entry : (g : Geometry) → Allowed g → (vek iv header : List ℕ) (entries : ℕ → ℕ) (t e : ℕ)
    → length iv ≡ 16 → e < per_block g → entries e < 256 ^ 4
    → part (g.b * (1 + t)) g.b header ≡ iv ++ ctr vek iv (joined (per_block g) (λ n. four_bytes (entries n)))
    → stored_entry g vek header (t * per_block g + e) ≡ entries e
unfolding stored_entry
sealed-entry g ok vek iv header entries t e ivl l fits is =
    rw (digits_div t l, digits_mod t l)
    (ap₂ (λ (x y : List ℕ). number_at (4 * e) (ctr vek x y)) iv_is cipher_is ∙ block_entry g ok vek iv entries ivl e l fits)
  where
    at : ℕ
    at = g.b * (1 + t)

    iv_is : part at 16 header ≡ iv
    iv_is =
        ap (λ (y : ℕ). part y 16 header) (sym (add-zero at))
        ∙ sym (part_part header at g.b 0 16 (omega (arith, b_bounds g ok)))
        ∙ ap (part 0 16) is
        ∙ block_iv g ok vek iv entries ivl

    cipher_is : part (at + 16) (g.b - 16) header ≡ part 16 (g.b - 16) (block g ok vek iv entries ivl)
    cipher_is = sym (part_part header at g.b 16 (g.b - 16) (omega (arith, b_bounds g ok))) ∙ ap (part 16 (g.b - 16)) is

-- Map block t of volume i, seen through the header.
pub header_block : (g : Geometry) (device : List ℕ) (i t : ℕ) → t < map_blocks g
    → part (g.b * (1 + t)) g.b (header_of g device i) ≡ part (map_block_start g i t) g.b device
unfolding map_start
header_block g device i t lt =
    let at : header_start g i + g.b * (1 + t) ≡ map_start g i + g.b * t = omega arith in
    part_part device (header_start g i) (g.b * (1 + map_blocks g)) (g.b * (1 + t)) g.b (omega (arith, mul-le-mul_left g.b lt))
    ∙ ap (λ (y : ℕ). part y g.b device) at

pub map-entry : (g : Geometry) → Allowed g → (device vek iv : List ℕ) (entries : ℕ → ℕ) (i t e : ℕ)
    → t < map_blocks g → e < per_block g → length iv ≡ 16 → entries e < 256 ^ 4
    → part (map_start g i + g.b * t) g.b device ≡ iv ++ ctr vek iv (joined (per_block g) (λ n. four_bytes (entries n)))
    → stored_entry g vek (header_of g device i) (t * per_block g + e) ≡ entries e
map-entry g ok device vek iv entries i t e lt le ivl fits is =
    sealed-entry g ok vek iv (header_of g device i) entries t e ivl le fits (header_block g device i t lt ∙ is)
