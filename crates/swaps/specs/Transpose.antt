-- Delta swaps between the words of a list, one after the other, and where each bit comes from. Assumes nothing.
use Rattle.std.specs.Prelude.{ℕ, ◌+◌, ◌-◌, Bool, cond, ◌&&◌, List, [], ◌∷◌, eqb, leb, ltb, get_or, set}
use Rattle.circuit.specs.Bits.{bit_of}
use Rattle.swaps.specs.Swaps.{swap_a, swap_b}

-- swap h m a: words a and a + h, swapped by h places under the mask m.
pub data Swap : Type 0 where
  swap : ℕ → ℕ → ℕ → Swap

-- The words after a swap.
abbrev pub once : Swap → List ℕ → List ℕ
once (swap h m a) v =
    set (set v (a + h) (swap_b h m (get_or v a 0) (get_or v (a + h) 0))) a (swap_a h m (get_or v a 0) (get_or v (a + h) 0))

-- The words after the swaps of a list, of which the last comes first.
abbrev pub swaps : List Swap → List ℕ → List ℕ
swaps [] v = v
swaps (o ∷ os) v = once o (swaps os v)

-- A bit of a list of words.
pub record Place : Type 0 where
  pub word : ℕ
  pub bit : ℕ

-- Bit i of word w.
abbrev pub place : ℕ → ℕ → Place
place w i = record { word = w; bit = i }

-- The place before a swap of the bit that is at p after it.
abbrev pub back : Swap → Place → Place
back (swap h m a) p =
    cond (eqb p.word a)
    (cond (leb h p.bit) (cond (eqb (bit_of (p.bit - h) m) 1) (place (a + h) (p.bit - h)) p) p)
    (cond (eqb p.word (a + h)) (cond (eqb (bit_of p.bit m) 1) (place a (h + p.bit)) p) p)

-- The swap is of two of n words, by at most 64 places.
abbrev pub fits : ℕ → Swap → Bool
fits n (swap h m a) = ltb (a + h) n && (ltb 0 h && leb h 64)

-- The bit at p after the swaps of n words comes from q, and was in the lowest 64 bits all the while.
abbrev pub leads : ℕ → List Swap → Place → Place → Bool
leads n [] p q = eqb p.word q.word && eqb p.bit q.bit
leads n (o ∷ os) p q = fits n o && (ltb p.bit 64 && leads n os (back o p) q)
