-- Patches on one device or two: what they cover is equal, the rest is kept; of patches in order each stands where it was stored.
-- Assumes nothing.
use Prim.Native.Nat.{ℕ, zero, suc, ◌+◌, ◌≤◌, ◌<◌}
use mathlib.Core.Path.{◌≡◌, refl, sym, ap, ◌∙◌}
use mathlib.Core.List.Memᴰ
use mathlib.Core.List.{List, [], ◌∷◌, ◌++◌, Memᴰ}
use mathlib.Core.Logic.{◌⊎◌, inl, inr, ⊎_elim}
use native.Mathlib.Omega.{arith}
use native.Mathlib.Nat.{eq-or-lt_of_le, le_of_suc-le-suc}
use lib.ListN.{length, get_or}
use Rattle.model.specs.Parts.{part, joined, overlay, Patch, patched}
use Rattle.guarantees.specs.Runs.{Range, Within}
use Rattle.model.proofs.Parts.{overlay_length, overlay_before, overlay_whole}
use Rattle.model.proofs.Parts.{overlay_get_or_before, overlay_get_or_after, overlay_get_or_both, overlay_get_or_over}
use Rattle.model.proofs.Tests.{below}

-- The places that patches write.
abbrev pub ranges_of : List Patch → List Range
ranges_of [] = []
ranges_of (x ∷ ps) = record { at = x.at; size = length x.bytes } ∷ ranges_of ps

pub ranges-++ : (ps qs : List Patch) → ranges_of (ps ++ qs) ≡ ranges_of ps ++ ranges_of qs
ranges-++ [] qs = refl
ranges-++ (x ∷ ps) qs = ap (λ (l : List Range). record { at = x.at; size = length x.bytes } ∷ l) (ranges-++ ps qs)

-- What no patch covers is kept.
pub patched-kept : (ps : List Patch) (s : List ℕ) (p : ℕ) → (Within p (ranges_of ps) → ⊥) → get_or (patched ps s) p 0 ≡ get_or s p 0
unfolding patched Within
patched-kept [] s p out = refl
patched-kept (x ∷ ps) s p out =
    patched-kept ps (overlay s x.at x.bytes) p (λ w. out (inr w))
    ∙ ⊎_elim (λ l. overlay_get_or_before 0 s x.at x.bytes p l)
    (λ l. ⊎_elim (λ k. absurd (out (inl (l, k)))) (λ k. overlay_get_or_after 0 s x.at x.bytes p k) (below p (x.at + length x.bytes)))
    (below p x.at)

module _ (p : ℕ) where
  -- Where two devices agree they still do.
  pub patched_both : (ps : List Patch) (s t : List ℕ) → length s ≡ length t → get_or s p 0 ≡ get_or t p 0
      → get_or (patched ps s) p 0 ≡ get_or (patched ps t) p 0
  unfolding patched
  patched_both [] s t e q = q
  patched_both (x ∷ ps) s t e q =
      patched_both ps (overlay s x.at x.bytes) (overlay t x.at x.bytes)
      (overlay_length s _ _ ∙ e ∙ sym (overlay_length t _ _))
      (overlay_get_or_both 0 s t x.at x.bytes p e q)

  -- Where a patch covers them they do now.
  pub patched_written : (ps : List Patch) (s t : List ℕ) → length s ≡ length t → Within p (ranges_of ps)
      → get_or (patched ps s) p 0 ≡ get_or (patched ps t) p 0
  unfolding patched Within
  patched_written [] s t e w = absurd w
  patched_written (x ∷ ps) s t e w =
      let s' = overlay s x.at x.bytes in
      let t' = overlay t x.at x.bytes in
      let long : length s' ≡ length t' = overlay_length s _ _ ∙ e ∙ sym (overlay_length t _ _) in
      ⊎_elim (λ k. patched_both ps s' t' long (overlay_get_or_over 0 s t x.at x.bytes p e k.0 k.1))
      (λ k. patched_written ps s' t' long k) w

-- ---- patches in order

-- Between two places, each patch begins where the one before it ended, or later.
abbrev pub InOrder : (from : ℕ) → List Patch → (to : ℕ) → Type 0
InOrder from [] to = from ≤ to
InOrder from (x ∷ ps) to = (from ≤ x.at) × InOrder (x.at + length x.bytes) ps to

-- They may begin later than said.
pub in_order_from : (a b : ℕ) (ps : List Patch) (c : ℕ) → a ≤ b → InOrder b ps c → InOrder a ps c
in_order_from a b [] c l o = omega arith
in_order_from a b (x ∷ ps) c l o = (omega (arith, o.0), o.1)

pub in_order-++ : (a : ℕ) (ps : List Patch) (b : ℕ) (qs : List Patch) (c : ℕ) → InOrder a ps b → InOrder b qs c → InOrder a (ps ++ qs) c
in_order-++ a [] b qs c o k = in_order_from a b qs c o k
in_order-++ a (x ∷ ps) b qs c o k = (o.0, in_order-++ (x.at + length x.bytes) ps b qs c o.1 k)

-- Groups of patches end to end, of which group i lies from start i to start (i + 1).
pub joined_in_order : (start : ℕ → ℕ) (f : ℕ → List Patch) (n : ℕ) → ((i : ℕ) → i < n → InOrder (start i) (f i) (start (suc i)))
    → InOrder (start 0) (joined n f) (start n)
unfolding joined
joined_in_order start f zero o = omega arith
joined_in_order start f (suc n) o =
    in_order-++ (start 0) (joined n f) (start n) (f n) (start (suc n)) (joined_in_order start f n (λ i l. o i (omega arith))) (o n (omega arith))

in_order_end : (a : ℕ) (ps : List Patch) (c : ℕ) → InOrder a ps c → a ≤ c
in_order_end a [] c o = o
in_order_end a (x ∷ ps) c o = omega (arith, o.0, in_order_end (x.at + length x.bytes) ps c o.1)

-- A part that ends before them is as it was.
patched-before : (a : ℕ) (ps : List Patch) (c : ℕ) (s : List ℕ) (x n : ℕ) → InOrder a ps c → x + n ≤ a → part x n (patched ps s) ≡ part x n s
unfolding patched
patched-before a [] c s x n o l = refl
patched-before a (y ∷ ps) c s x n o l =
    patched-before (y.at + length y.bytes) ps c (overlay s y.at y.bytes) x n o.1 (omega (arith, o.0))
    ∙ overlay_before s y.at y.bytes x n (omega (arith, o.0))

-- Each of them stands whole.
pub patched-whole : (a : ℕ) (ps : List Patch) (c : ℕ) (s : List ℕ) → InOrder a ps c → c ≤ length s → (x : Patch) → Memᴰ x ps
    → (n : ℕ) → length x.bytes ≡ n → part x.at n (patched ps s) ≡ x.bytes
unfolding patched
patched-whole a [] c s o l x m n q = elim m [ ]
patched-whole a (y ∷ ps) c s o l x (Memᴰ.head e) n q =
    let y-long : length y.bytes ≡ n = rw e at q in
    let ends = in_order_end (y.at + length y.bytes) ps c o.1 in
    rw e
    (patched-before (y.at + length y.bytes) ps c (overlay s y.at y.bytes) y.at n o.1 (omega arith)
    ∙ overlay_whole s y.at y.bytes n y-long (omega arith))
patched-whole a (y ∷ ps) c s o l x (Memᴰ.tail m) n q =
    patched-whole (y.at + length y.bytes) ps c (overlay s y.at y.bytes) o.1
    (omega (arith, overlay_length s y.at y.bytes)) x m n q

-- ---- groups of patches and of ranges

pub joined_member : {A : Type 0} {x : A} (f : ℕ → List A) (n i : ℕ) → i < n → Memᴰ x (f i) → Memᴰ x (joined n f)
unfolding joined
joined_member f zero i l m = absurd (omega arith)
joined_member {x = x} f (suc n) i l m =
    ⊎_elim (λ e. Memᴰ.append_right (joined n f) (rw e at m)) (λ k. Memᴰ.append_left (f n) (joined_member f n i k m))
    (eq-or-lt_of_le (le_of_suc-le-suc l))

module _ (p : ℕ) where
  within_cases : (rs ss : List Range) → Within p (rs ++ ss) → Within p rs ⊎ Within p ss
  unfolding Within
  within_cases [] ss w = inr w
  within_cases (r ∷ rs) ss (inl w) = inl (inl w)
  within_cases (r ∷ rs) ss (inr w) = ⊎_elim (λ k. inl (inr k)) (λ k. inr k) (within_cases rs ss w)

  within_left : (rs ss : List Range) → Within p rs → Within p (rs ++ ss)
  unfolding Within
  within_left [] ss w = absurd w
  within_left (r ∷ rs) ss (inl w) = inl w
  within_left (r ∷ rs) ss (inr w) = inr (within_left rs ss w)

  within_right : (rs ss : List Range) → Within p ss → Within p (rs ++ ss)
  unfolding Within
  within_right [] ss w = w
  within_right (r ∷ rs) ss w = inr (within_right rs ss w)

  -- What two lists of patches cover is what each does.
  pub ranges_cases : (ps qs : List Patch) → Within p (ranges_of (ps ++ qs)) → Within p (ranges_of ps) ⊎ Within p (ranges_of qs)
  ranges_cases ps qs w = within_cases (ranges_of ps) (ranges_of qs) (rw (ranges-++ ps qs) at w)

  -- Groups of patches cover no more than groups of ranges do, where each group covers no more than its own.
  pub joined_within : (f : ℕ → List Patch) (h : ℕ → List Range) (n : ℕ)
      → ((i : ℕ) → i < n → Within p (ranges_of (f i)) → Within p (h i)) → Within p (ranges_of (joined n f)) → Within p (joined n h)
  unfolding joined
  joined_within f h zero k w = w
  joined_within f h (suc n) k w =
      ⊎_elim (λ l. within_left (joined n h) (h n) (joined_within f h n (λ i q. k i (omega arith)) l))
      (λ r. within_right (joined n h) (h n) (k n (omega arith) r))
      (ranges_cases (joined n f) (f n) w)
