-- Where the bits of words come from that were swapped. Assumes nothing.
use mathlib.Core.Path.{◌≡◌, refl, ap, ap₂, ◌∙◌}
use mathlib.Core.Bool.{Bool, true, false, cond, ◌&&◌}
use mathlib.Core.List.{List, [], ◌∷◌}
use Prim.Native.Nat.{ℕ, ◌+◌, ◌-◌, ◌<◌, ◌≤◌}
use native.Mathlib.Omega.{arith}
use borrow.Author.Tests.{eqb-true, eqb-false, leb-true, leb-false}
use lib.Dec.{T, eqb, leb, ltb, leb→le, ltb→lt, eqb→eq}
use lib.ListN.{get_or, set, length, length-set}
use lib.Seq.{get_or-set_same, get_or-set_other, lt-length-set}
use Rattle.circuit.specs.Bits.{bit_of}
use Rattle.circuit.proofs.Laws.{bit_lt}
use Rattle.swaps.specs.Swaps.{swap_a, swap_b}
use Rattle.swaps.specs.Transpose.{Swap, swap, once, swaps, Place, back, fits, leads}
use Rattle.swaps.proofs.Laws.{laws}

-- Both tests pass.
and_parts : (a b : Bool) → T (a && b) → T a × T b
and_parts true b t = (tt, t)
and_parts false b t = absurd t

-- What holds of each of two places, where it is picked, holds of the one picked.
picked : (P : Place → Type 0) (t : Bool) (x y : Place) → (t ≡ true → P x) → (t ≡ false → P y) → P (cond t x y)
picked P true x y p q = p refl
picked P false x y p q = q refl

-- The bit at a place of words.
abbrev pub bit_at : List ℕ → Place → ℕ
bit_at v p = bit_of p.bit (get_or v p.word 0)

module _ (h m a : ℕ) (v : List ℕ) (within : a + h < length v) (apart : 0 < h) (narrow : h ≤ 64) where
  at_a : get_or (once (swap h m a) v) a 0 ≡ swap_a h m (get_or v a 0) (get_or v (a + h) 0)
  at_a = get_or-set_same (set v (a + h) _) a _ 0 (lt-length-set v (a + h) _ (omega arith))

  at_b : get_or (once (swap h m a) v) (a + h) 0 ≡ swap_b h m (get_or v a 0) (get_or v (a + h) 0)
  at_b = get_or-set_other (set v (a + h) _) a (a + h) _ 0 (λ e. omega arith) ∙ get_or-set_same v (a + h) _ 0 within

  at_else : (w : ℕ) → (w ≡ a → ⊥) → (w ≡ a + h → ⊥) → get_or (once (swap h m a) v) w 0 ≡ get_or v w 0
  at_else w p q = get_or-set_other (set v (a + h) _) a w _ 0 p ∙ get_or-set_other v (a + h) w _ 0 q

  off : (i : ℕ) → eqb (bit_of i m) 1 ≡ false → bit_of i m ≡ 0
  off i e = omega (arith, bit_lt i m, eqb-false (bit_of i m) 1 e)

  -- The bit at a place after the swap was where `back` says.
  from : (p : Place) → p.bit < 64 → bit_at (once (swap h m a) v) p ≡ bit_at v (back (swap h m a) p)
  from p l =
      let w = p.word in
      let i = p.bit in
      let x = get_or v a 0 in
      let y = get_or v (a + h) 0 in
      let P : Place → Type 0 = λ q. bit_at (once (swap h m a) v) p ≡ bit_at v q in
      picked P (eqb w a) _ _
      (λ e.
      let n : w ≡ a = eqb-true w a e in
      picked P (leb h i) _ _
      (λ f.
      let k : h + (i - h) ≡ i = omega (arith, leb-true h i f) in
      picked P (eqb (bit_of (i - h) m) 1) _ _
      (λ g. cc (at_a, laws.a_moved h m x y (i - h) (omega arith) (eqb-true (bit_of (i - h) m) 1 g)))
      (λ g. cc (at_a, laws.a_stays h m x y (i - h) (omega arith) (off (i - h) g))))
      (λ f. cc (at_a, laws.a_low h m x y i (leb-false h i f) narrow)))
      (λ e.
      picked P (eqb w (a + h)) _ _
      (λ f.
      let n : w ≡ a + h = eqb-true w (a + h) f in
      picked P (eqb (bit_of i m) 1) _ _
      (λ g. cc (at_b, laws.b_moved h m x y i (eqb-true (bit_of i m) 1 g)))
      (λ g. cc (at_b, laws.b_stays h m x y i (off i g))))
      (λ f. ap (bit_of i) (at_else w (eqb-false w a e) (eqb-false w (a + h) f))))

once-length : (o : Swap) (v : List ℕ) → length (once o v) ≡ length v
once-length (swap h m a) v = length-set (set v (a + h) _) a _ ∙ length-set v (a + h) _

pub swaps-length : (os : List Swap) (v : List ℕ) → length (swaps os v) ≡ length v
swaps-length [] v = refl
swaps-length (o ∷ os) v = once-length o (swaps os v) ∙ swaps-length os v

-- The bit at p after the swaps is the bit at the place q that p leads to.
pub traced : (os : List Swap) (v : List ℕ) (p q : Place) → T (leads (length v) os p q) → bit_at (swaps os v) p ≡ bit_at v q
traced [] v p q t =
    let s = and_parts (eqb p.word q.word) _ t in
    ap₂ (λ (w i : ℕ). bit_of i (get_or v w 0)) (eqb→eq p.word q.word s.0) (eqb→eq p.bit q.bit s.1)
traced (swap h m a ∷ os) v p q t =
    let s = and_parts (fits (length v) (swap h m a)) _ t in
    let f = and_parts (ltb (a + h) (length v)) _ s.0 in
    let g = and_parts (ltb 0 h) _ f.1 in
    let r = and_parts (ltb p.bit 64) _ s.1 in
    from h m a (swaps os v) (rw swaps-length (ltb→lt (a + h) (length v) f.0)) (ltb→lt 0 h g.0) (leb→le h 64 g.1) p
    (ltb→lt p.bit 64 r.0)
    ∙ traced os v (back (swap h m a) p) q r.1
