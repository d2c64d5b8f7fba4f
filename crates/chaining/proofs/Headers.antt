-- Laws of opening headers. Assumes nothing.
use Prim.Native.Nat.{ℕ, ◌+◌, ◌-◌, ◌*◌, ◌≤◌}
use mathlib.Core.Path.{◌≡◌, refl, sym, ap, subst, ◌∙◌}
use mathlib.Core.List.{List, [], ◌∷◌}
use mathlib.Core.Bool.{Bool, true, false, not, ◌||◌}
use native.Mathlib.Nat.{mul-le-mul_left}
use native.Mathlib.Omega.{arith}
use borrow.Author.Tests.{eq-eqb, ne_eqb}
use lib.Dec.{eqb}
use lib.ListN.{length, take, drop}
use Rattle.gcm_spec.specs.Gcm.{Opened, Text, WrongTag, gcm_tag, gcm_text, same, text_if}
use Rattle.gcm.specs.Call.{opened_over}
use Rattle.gcm_spec.proofs.Same.{open_test}
use Rattle.model.specs.declared.Geometry.{Geometry}
use Rattle.model.specs.Parts.{choose, part}
use Rattle.model.specs.Geometry.{Allowed, map_blocks, device_length, header_start, header_of, bad_count, number_at}
use Rattle.model.specs.Opening.{open_header, slice_count, bad_header, Chain, Broken, link}
use Rattle.model.proofs.Parts.{part_part}
use Rattle.model.proofs.Bounds.{b_bounds, header_fits}
use Rattle.chaining.specs.Steps.{HeaderOpened}

-- ---- parts

-- A header is read alike where more of the device follows it.
pub part_header : (g : Geometry) → Allowed g → (device : List ℕ) (i : ℕ) → i ≤ 14 → length device ≡ device_length g → {s : ℕ} → s ≡ header_start g i
    → (x n : ℕ) → x + n ≤ g.b * (1 + map_blocks g) → part x n (take (length device - s) (drop s device)) ≡ part x n (header_of g device i)
part_header g ok device i l e {s} q x n h =
    part_part device s (length device - s) x n (omega (arith, header_fits g ok i l))
    ∙ ap (λ (m : ℕ). part (m + x) n device) q
    ∙ sym (part_part device (header_start g i) (g.b * (1 + map_blocks g)) x n h)

-- ---- headers

-- Opening a header, by the outcome of its test.
pub open_header_test : (vmk header : List ℕ) (i : ℕ) {r t : Bool}
    → r ≡ same (gcm_tag vmk (part 0 12 header) ((16 + i) ∷ []) (part 12 72 header)) (part 84 16 header) → r ≡ t
    → open_header vmk i header ≡ text_if t (gcm_text vmk (part 0 12 header) (part 12 72 header))
open_header_test vmk header i = open_test vmk (part 0 12 header) ((16 + i) ∷ []) (part 12 72 header) (part 84 16 header)

-- A header lies on the device.
pub header_begins : (g : Geometry) → Allowed g → (device : List ℕ) (i : ℕ) → i ≤ 14 → length device ≡ device_length g
    → {s : ℕ} → s ≡ header_start g i → s + 100 ≤ length device
header_begins g ok device i l e q =
    omega (arith, header_fits g ok i l, b_bounds g ok, mul-le-mul_left {m = 1} {n = 1 + map_blocks g} g.b (omega arith))

open_header_longer : (g : Geometry) → Allowed g → (device vmk : List ℕ) (i : ℕ) → i ≤ 14 → length device ≡ device_length g
    → {s : ℕ} → s ≡ header_start g i → open_header vmk i (take (length device - s) (drop s device)) ≡ open_header vmk i (header_of g device i)
open_header_longer g ok device vmk i l e q =
    let wide : 100 ≤ g.b * (1 + map_blocks g) = omega (arith, b_bounds g ok, mul-le-mul_left {m = 1} {n = 1 + map_blocks g} g.b (omega arith)) in
    let same_part = part_header g ok device i l e q in
    cc (same_part 0 12 (omega arith), same_part 12 72 (omega arith), same_part 84 16 (omega arith))

-- So a header opens alike where more of the device follows it.
pub header_opened : (g : Geometry) → Allowed g → (device vmk : List ℕ) (i : ℕ) → i ≤ 14 → length device ≡ device_length g
    → {s : ℕ} (n : ℕ) (text : List ℕ) → s ≡ header_start g i → HeaderOpened g (open_header vmk i (take (length device - s) (drop s device))) n text
    → HeaderOpened g (open_header vmk i (header_of g device i)) n text
header_opened g ok device vmk i l e n text q h =
    subst (λ (o : Opened). HeaderOpened g o n text) (open_header_longer g ok device vmk i l e q) h

module _ (g : Geometry) where
  -- A header that opened, by the tests of its N and its S.
  module _ (vmk header old text : List ℕ) (i : ℕ) {r : Bool}
      (right : r ≡ same (gcm_tag vmk (part 0 12 header) ((16 + i) ∷ []) (part 12 72 header)) (part 84 16 header)) (opens : r ≡ true)
      (output : text ≡ opened_over (open_header vmk i header) old) {bad : Bool} {n : ℕ} (counted : n ≡ slice_count text)
      (tested : bad ≡ bad_count g.p n) where
    answered : (m : ℕ) → m ≡ choose (bad || not (eqb (number_at 68 text) g.s)) 8 0 → HeaderOpened g (open_header vmk i header) m text
    answered m h =
        let e : open_header vmk i header ≡ Text (gcm_text vmk (part 0 12 header) (part 12 72 header)) = open_header_test vmk header i right opens in
        let same_text = output ∙ ap (λ (o : Opened). opened_over o old) e in
        let test : bad ≡ bad_count g.p (slice_count text) = tested ∙ ap (bad_count g.p) counted in
        rw e (
          same_text,
          h ∙ ap (λ (b : Bool). choose (b || not (eqb (number_at 68 text) g.s)) 8 0) test
              ∙ ap (λ (x : List ℕ). choose (bad_header g x) 8 0) same_text,
        )

    pub count_bad : bad ≡ true → HeaderOpened g (open_header vmk i header) 8 text
    count_bad e = answered 8 (sym (rw e))

    pub blocks_differ : bad ≡ false → {s : ℕ} → s ≡ number_at 68 text → (s ≡ g.s → ⊥) → HeaderOpened g (open_header vmk i header) 8 text
    blocks_differ e q h = answered 8 (sym (rw (e, ← q, ne_eqb _ g.s h)))

    pub none_bad : bad ≡ false → {s : ℕ} → s ≡ number_at 68 text → s ≡ g.s → HeaderOpened g (open_header vmk i header) 0 text
    none_bad e q h = answered 0 (sym (rw (e, ← q, eq-eqb _ g.s h)))

  pub header_wrong : {o : Opened} (text : List ℕ) → o ≡ WrongTag → HeaderOpened g o 7 text
  header_wrong text e = rw e refl

  pub link_broken : (o : Opened) (n : ℕ) (text : List ℕ) (next : List ℕ → Chain) → HeaderOpened g o n text → (n ≡ 0 → ⊥) → link g o next ≡ Broken n
  link_broken WrongTag n text next e h = ap Broken (sym e)
  link_broken (Text t) n text next (q, e) h = by_test (bad_header g t) e
    where
      by_test : (b : Bool) → n ≡ choose b 8 0 → choose b (Broken 8) (next t) ≡ Broken n
      by_test true x = ap Broken (sym x)
      by_test false x = absurd (h x)

  pub link_goes_on : (o : Opened) (n : ℕ) (text : List ℕ) (next : List ℕ → Chain) → HeaderOpened g o n text → n ≡ 0 → link g o next ≡ next text
  link_goes_on WrongTag n text next e h = absurd (omega arith)
  link_goes_on (Text t) n text next (q, e) h = by_test (bad_header g t) e
    where
      by_test : (b : Bool) → n ≡ choose b 8 0 → choose b (Broken 8) (next t) ≡ next text
      by_test true x = absurd (omega arith)
      by_test false x = ap next (sym q)
