-- Formatting is refused by the first rule that applies, or makes the device that document 02 describes from the bytes drawn.
-- Assumes nothing.
use Prim.Native.Nat.{ℕ, zero, suc, ◌+◌, ◌-◌, ◌*◌, ◌≤◌, ◌<◌}
use mathlib.Core.Path.{◌≡◌, refl, sym, ap, ap₂, ◌∙◌}
use mathlib.Core.Bool.{Bool}
use mathlib.Core.List.Memᴰ
use mathlib.Core.List.{List, [], ◌∷◌, ◌++◌, Memᴰ}
use mathlib.Core.Logic.{inl, inr, ⊎_elim}
use native.Mathlib.Omega.{arith}
use native.Mathlib.Nat.{mul_comm}
use lib.ListN.{length, replicate}
use lib.Seq.{take_all}
use Rattle.refusals.specs.Numbers.{refuse}
use Rattle.ctr_spec.specs.CounterMode.{ctr}
use Rattle.model.specs.declared.Geometry.{Geometry}
use Rattle.model.specs.Parts.{part, joined, Patch, patched}
use Rattle.model.specs.Geometry.{Allowed, count_in, map_blocks, device_length, four_bytes, cell_start, header_start, map_start}
use Rattle.model.specs.Session.{LentResult, key_in, unless}
use Rattle.model.specs.Opening.{no_maps}
use Rattle.model.specs.Maps.{map_block}
use Rattle.model.specs.Format.{header_iv_at, map_iv_at, format_need, sealed, made_cell, made_below, made_text, made_header, made_map}
use Rattle.model.specs.Format.{cell_patches, header_patches, formatted, lower_refusal, format_model}
use Rattle.model.specs.Format as format
use Rattle.model.specs.Conditions.{Enough}
use Rattle.model.specs.Theorems.{Sealed}
use Rattle.model.proofs.Parts.{part_length, part_split, part_joined, patched-length}
use Rattle.model.proofs.Bounds.{b_bounds, headers_fit}
use Rattle.model.proofs.Requests.{Formattable}
use Rattle.model.proofs.MapBlocks.{map_text-empty}
use Rattle.model.proofs.Cells.{LowerEnd, some, none, lower_opens_ends}
use Rattle.model.proofs.Seals.{stands_iv, stands_sealed}
use Rattle.model.proofs.Drawn as drawn-laws
use Rattle.guarantees.specs.Runs.{Range, Within}
use Rattle.guarantees.specs.Rules.{First, format_rules}
use Rattle.guarantees.specs.Making.{Draws, below_of, made_ranges, Made, FormatAnswered, handed_wrong, lower_cell}
use Rattle.guarantees.proofs.Chains.{Comes, stopped, through, leads-first}
use Rattle.guarantees.proofs.Orders.{format_comes}
use Rattle.guarantees.proofs.Patches.{ranges_of, patched-kept, InOrder, in_order_from, in_order-++, joined_in_order, patched-whole}
use Rattle.guarantees.proofs.Patches.{joined_member, ranges_cases, joined_within}
use Rattle.guarantees.proofs.MapBlocks.{map_bytes_length, map_block_stands}

module _ (g : Geometry) (n : ℕ) (drawn : List ℕ) (long : length drawn ≡ format_need g n) where
  -- ---- what is drawn

  abbrev L : ℕ
  L = device_length g

  abbrev m : ℕ
  m = map_blocks g

  abbrev noise : List ℕ
  noise = part 0 L drawn

  abbrev vmk : ℕ → List ℕ
  vmk = format.drawn_vmk g drawn

  abbrev vek : ℕ → List ℕ
  vek = format.drawn_vek g drawn

  abbrev cell_iv : ℕ → List ℕ
  cell_iv = format.cell_iv g n drawn

  abbrev header_iv : ℕ → List ℕ
  header_iv = format.header_iv g n drawn

  abbrev map_iv : ℕ → ℕ → List ℕ
  map_iv i t = part (map_iv_at g n i + 16 * t) 16 drawn

  noise_long : length noise ≡ L
  unfolding format_need
  noise_long = part_length drawn 0 L (omega arith)

  -- The drawn bytes are these parts of them, end to end.
  drawn_in_order : drawn
      ≡ noise ++ (joined n (λ i. vmk i ++ vek i) ++ (joined n cell_iv ++ joined n (λ i. header_iv i ++ joined m (map_iv i))))
  unfolding format_need
  drawn_in_order =
      sym (take_all (L + (n * 64 + (n * 12 + n * (12 + 16 * m)))) drawn (omega arith))
      ∙ part_split drawn 0 L _ L (omega arith)
      ∙ ap (λ (r : List ℕ). noise ++ r)
      (part_split drawn L (n * 64) _ (L + 64 * n) (omega arith)
      ∙ ap₂ (λ (p q : List ℕ). p ++ q) keys
      (part_split drawn (L + 64 * n) (n * 12) _ (L + 76 * n) (omega arith)
      ∙ ap₂ (λ (p q : List ℕ). p ++ q) cells headers))
    where
      keys : part L (n * 64) drawn ≡ joined n (λ i. vmk i ++ vek i)
      keys = part_joined 64 drawn L n _ (λ i l. part_split drawn (L + 64 * i) 32 32 _ refl)

      cells : part (L + 64 * n) (n * 12) drawn ≡ joined n cell_iv
      cells = part_joined 12 drawn (L + 64 * n) n cell_iv (λ i l. refl)

      maps : (i : ℕ) → part (map_iv_at g n i) (16 * m) drawn ≡ joined m (map_iv i)
      maps i = ap (λ (k : ℕ). part (map_iv_at g n i) k drawn) (mul_comm 16 m) ∙ part_joined 16 drawn (map_iv_at g n i) m (map_iv i) (λ t l. refl)

      headers : part (L + 76 * n) (n * (12 + 16 * m)) drawn ≡ joined n (λ i. header_iv i ++ joined m (map_iv i))
      headers =
          part_joined (12 + 16 * m) drawn (L + 76 * n) n _
          (λ i l. part_split drawn (header_iv_at g n i) 12 (16 * m) (map_iv_at g n i) refl ∙ ap (λ (r : List ℕ). header_iv i ++ r) (maps i))

  abbrev draws : Draws g n drawn
  draws =
      record {
        noise = noise;
        vmk = vmk;
        vek = vek;
        cell_iv = cell_iv;
        header_iv = header_iv;
        map_iv = map_iv;
        noise_long = noise_long;
        vmk_long = drawn-laws.drawn_vmk_length g n drawn long;
        vek_long = drawn-laws.drawn_vek_length g n drawn long;
        cell_iv_long = drawn-laws.cell_iv_length g n drawn long;
        header_iv_long = drawn-laws.header_iv_length g n drawn long;
        map_iv_long = drawn-laws.map_iv_length g n drawn long;
        in_order = drawn_in_order;
      }

  -- ---- the patches: those of cell i, and of header i with its map

  module _ (keys counts : List ℕ) where
    abbrev cell_patch : ℕ → Patch
    cell_patch i = record { at = cell_start i; bytes = made_cell g n keys drawn i }

    abbrev header_patch : ℕ → Patch
    header_patch i = record { at = header_start g i; bytes = made_header g n counts drawn i }

    abbrev map_patch : ℕ → Patch
    map_patch i = record { at = map_start g i; bytes = made_map g n drawn i }

    abbrev cells : ℕ → List Patch
    cells i = cell_patch i ∷ []

    abbrev headers : ℕ → List Patch
    headers i = header_patch i ∷ map_patch i ∷ []

    -- The model's lists of them, end to end.
    cell_patches_joined : (c : ℕ) → cell_patches g n keys drawn c ≡ joined c cells
    unfolding cell_patches joined
    cell_patches_joined zero = refl
    cell_patches_joined (suc c) = ap (λ (ps : List Patch). ps ++ cells c) (cell_patches_joined c)

    header_patches_joined : (v : ℕ) → header_patches g n counts drawn v ≡ joined v headers
    unfolding header_patches joined
    header_patches_joined zero = refl
    header_patches_joined (suc v) = ap (λ (ps : List Patch). ps ++ headers v) (header_patches_joined v)

    abbrev patches : List Patch
    patches = joined n cells ++ joined n headers

    abbrev device : List ℕ
    device = patched patches noise

    formatted_joined : formatted g n keys counts drawn ≡ device
    unfolding formatted
    formatted_joined = ap₂ (λ (ps qs : List Patch). patched (ps ++ qs) noise) (cell_patches_joined n) (header_patches_joined n)

    module _ (ok : Allowed g) (low : n ≤ 15) where
      cell_long : (i : ℕ) → i < n → length (made_cell g n keys drawn i) ≡ 60
      cell_long = drawn-laws.made_cell_length g n drawn long keys

      header_long : (i : ℕ) → i < n → length (made_header g n counts drawn i) ≡ 100
      header_long = drawn-laws.made_header_length g n drawn long counts

      ivs_left : (i : ℕ) → i < n → Enough (length drawn) (map_iv_at g n i) (16 * m)
      ivs_left i l = omega (arith, drawn-laws.ivs_end g n drawn long i l)

      map_long : (i : ℕ) → i < n → length (made_map g n drawn i) ≡ g.b * m
      map_long i l = map_bytes_length (no_maps g) g ok (vek i) i drawn (map_iv_at g n i) (ivs_left i l)

      -- ---- where they stand

      -- Cells end before the first header, each header before its map, and each map before the next header.
      patches_in_order : InOrder (cell_start 0) patches (header_start g n)
      unfolding map_start
      patches_in_order =
          in_order-++ (cell_start 0) (joined n cells) (cell_start n) (joined n headers) (header_start g n)
          (joined_in_order cell_start cells n (λ i l. (omega arith, omega (arith, cell_long i l))))
          (in_order_from (cell_start n) (header_start g 0) (joined n headers) (header_start g n) (omega (arith, b_bounds g ok))
          (joined_in_order (header_start g) headers n
          (λ i l. (omega arith, (omega (arith, header_long i l, b_bounds g ok), omega (arith, map_long i l))))))

      stands : (x : Patch) → Memᴰ x patches → (w : ℕ) → length x.bytes ≡ w → part x.at w device ≡ x.bytes
      stands =
          patched-whole (cell_start 0) patches (header_start g n) noise patches_in_order (omega (arith, noise_long, headers_fit g ok n low))

      cell_stands : (i : ℕ) → i < n → part (cell_start i) 60 device ≡ made_cell g n keys drawn i
      cell_stands i l =
          stands (cell_patch i) (Memᴰ.append_left (joined n headers) (joined_member cells n i l (Memᴰ.head refl))) 60 (cell_long i l)

      header_stands : (i : ℕ) → i < n → part (header_start g i) 100 device ≡ made_header g n counts drawn i
      header_stands i l =
          stands (header_patch i) (Memᴰ.append_right (joined n cells) (joined_member headers n i l (Memᴰ.head refl))) 100 (header_long i l)

      map_stands : (i : ℕ) → i < n → part (map_start g i) (g.b * m) device ≡ made_map g n drawn i
      map_stands i l =
          stands (map_patch i) (Memᴰ.append_right (joined n cells) (joined_member headers n i l (Memᴰ.tail (Memᴰ.head refl)))) (g.b * m)
          (map_long i l)

      block_stands : (i t : ℕ) → i < n → t < m
          → part (map_start g i + g.b * t) g.b device ≡ map_iv i t ++ ctr (vek i) (map_iv i t) (replicate (g.b - 16) 0xFF)
      unfolding map_block
      block_stands i t l h =
          map_block_stands (no_maps g) g ok (vek i) i drawn (map_iv_at g n i) (ivs_left i l) device (map_stands i l) t h
          ∙ ap (λ (text : List ℕ). map_iv i t ++ ctr (vek i) (map_iv i t) text) (map_text-empty g ok i t (omega arith))

      -- The VMK below, in the model's words and in the statement's.
      below_same : (i : ℕ) → made_below g drawn i ≡ below_of vmk i
      below_same zero = refl
      below_same (suc i) = refl

      header_sealed : (i : ℕ) → i < n
          → Sealed (vmk i) (16 + i) (header_start g i) 72 device
          (vek i ++ (below_of vmk i ++ (four_bytes (count_in counts i) ++ four_bytes g.s)))
      header_sealed i l =
          rw (← below_same i)
          (stands_sealed (vmk i) (header_iv i) (16 + i) 72 (made_text g counts drawn i) (draws.header_iv_long i l)
          (drawn-laws.made_text_length g n drawn long counts i l) (header_start g i) device (header_stands i l))

      -- ---- elsewhere

      abbrev made_at : ℕ → List Range
      made_at i =
          record { at = cell_start i; size = 60 }
          ∷ record { at = header_start g i; size = 100 }
          ∷ record { at = map_start g i; size = g.b * m }
          ∷ []

      -- The patches cover no more than the places of cells, headers and maps.
      made_ranges_joined : (v : ℕ) → made_ranges g v ≡ joined v made_at
      unfolding joined
      made_ranges_joined zero = refl
      made_ranges_joined (suc v) = ap (λ (rs : List Range). rs ++ made_at v) (made_ranges_joined v)

      covered : (p : ℕ) → Within p (ranges_of patches) → Within p (made_ranges g n)
      unfolding Within
      covered p w =
          rw (made_ranges_joined n)
          (⊎_elim (joined_within p cells made_at n in_cell) (joined_within p headers made_at n in_header)
          (ranges_cases p (joined n cells) (joined n headers) w))
        where
          in_cell : (i : ℕ) → i < n → Within p (ranges_of (cells i)) → Within p (made_at i)
          in_cell i l (inl k) = inl (k.0, rw (cell_long i l) at k.1)
          in_cell i l (inr k) = absurd k

          in_header : (i : ℕ) → i < n → Within p (ranges_of (headers i)) → Within p (made_at i)
          in_header i l (inl k) = inr (inl (k.0, rw (header_long i l) at k.1))
          in_header i l (inr (inl k)) = inr (inr (inl (k.0, rw (map_long i l) at k.1)))
          in_header i l (inr (inr k)) = absurd k

      made : Made g n keys counts drawn draws device
      made =
          record {
            long = patched-length patches noise ∙ noise_long;
            cell_iv_lem = λ i l.
                stands_iv (key_in keys i) (cell_iv i) i 32 (vmk i) (draws.cell_iv_long i l) (draws.vmk_long i l) (cell_start i) device
                (cell_stands i l);
            cell = λ i l.
                stands_sealed (key_in keys i) (cell_iv i) i 32 (vmk i) (draws.cell_iv_long i l) (draws.vmk_long i l) (cell_start i) device
                (cell_stands i l);
            header_iv_lem = λ i l.
                stands_iv (vmk i) (header_iv i) (16 + i) 72 (made_text g counts drawn i) (draws.header_iv_long i l)
                (drawn-laws.made_text_length g n drawn long counts i l) (header_start g i) device (header_stands i l);
            header = header_sealed;
            map = block_stands;
            noise = λ p out. patched-kept patches noise p (λ w. out (covered p w));
          }

-- ---- the answer

pub format_answered : (device : ℕ) (g : Geometry) (n : ℕ) (keys counts tape : List ℕ) (position : ℕ)
    → FormatAnswered device g n keys counts tape position (format_model device g n keys counts tape position)
unfolding format_model format_need sealed refuse
format_answered device g n keys counts tape position =
    go (format_comes device g n (length keys) counts (length tape) position (lower_refusal g n keys drawn))
  where
    drawn : List ℕ
    drawn = part position (format_need g n) tape

    answer : ℕ → LentResult
    answer r = unless r LentResult.Refused (LentResult.Served (formatted g n keys counts drawn) (position + format_need g n))

    Answered : LentResult → Type 0
    Answered = FormatAnswered device g n keys counts tape position

    refused : (r : ℕ) → (r ≡ 0 → ⊥) → First (format_rules device g n (length keys) counts (length tape) position) r 0 → Answered (answer r)
    refused zero ne first = absurd (ne refl)
    refused (suc r) ne first = handed_wrong (suc r) ne first

    drawn_done : First (format_rules device g n (length keys) counts (length tape) position) 0 0
        → Formattable device g n (length keys) counts (length tape) position → {b : Bool} → LowerEnd keys (made_cell g n keys drawn) n b
        → Answered (answer (refuse b 24 0))
    drawn_done first known (some i j v l h e) =
        lower_cell first (draws g n drawn (part_length tape position (format_need g n) known.enough)) i j v l h e
    drawn_done first known (none shut) =
        let long = part_length tape position (format_need g n) known.enough in
        FormatAnswered.served first (draws g n drawn long) shut (formatted g n keys counts drawn)
        (rw (formatted_joined g n drawn long keys counts) (made g n drawn long keys counts known.allowed known.count.1))

    go : {r : ℕ}
        → Comes (format_rules device g n (length keys) counts (length tape) position) (Formattable device g n (length keys) counts (length tape) position)
        (lower_refusal g n keys drawn) r
        → Answered (answer r)
    go {r} (stopped ne first) = refused r ne (leads-first first)
    go (through first known) = drawn_done (leads-first first) known (lower_opens_ends keys (made_cell g n keys drawn) n)
