-- The transposition turns, by one computed test over its 2,048 bits. Assumes nothing.
use mathlib.Core.Path.{◌≡◌, refl, sym, ap, ◌∙◌}
use mathlib.Core.Bool.{Bool}
use mathlib.Core.List.{List, [], ◌∷◌, ◌++◌}
use Prim.Native.Nat.{ℕ, ◌+◌, ◌*◌, ◌/◌, ◌%◌, ◌<◌}
use native.Mathlib.Omega.{arith}
use native.Mathlib.Numerals.{add-one}
use lib.Dec.{T}
use lib.ListN.{get_or, length, replicate}
use Rattle.field.proofs.Table.{all, at_each}
use Rattle.circuit.specs.Bits.{bit_of}
use Rattle.swaps.specs.Transpose.{Swap, swap, once, swaps, place, leads}
use Rattle.swaps.proofs.Trace.{traced, swaps-length}
use Rattle.turn.specs.Turn.{first, stage, whole, turned_of, TurnLaws}

-- A turn of a stage's loop.
pub stage_turn : (h m n : ℕ) (x v v' : List ℕ) → v ≡ swaps (stage h m n) x → v' ≡ once (swap h m (first h n)) v
    → v' ≡ swaps (stage h m (n + 1)) x
unfolding stage
stage_turn h m n x v v' p q = q ∙ ap (once (swap h m (first h n))) p ∙ ap (λ (k : ℕ). swaps (stage h m k) x) (sym (add-one n))

-- No turn.
pub stage_none : (h m : ℕ) (x : List ℕ) → x ≡ swaps (stage h m 0) x
unfolding stage
stage_none h m x = refl

-- Stages one after the other.
pub append : (a b : List Swap) (x : List ℕ) → swaps (a ++ b) x ≡ swaps a (swaps b x)
append [] b x = refl
append (o ∷ a) b x = ap (once o) (append a b x)

-- Bit n % 64 of word n / 64 comes from where it has to.
unfoldable right_at : ℕ → ℕ → Bool
right_at n x = leads 32 whole (place (n / 64) (n % 64)) (place (n % 64 % 32) (n % 64 / 32 * 32 + n / 64))

all_right : T (all right_at 0 (replicate 2048 0))
unfolding right_at whole stage bit_of
all_right = tt

turned_length : (x : List ℕ) → length x ≡ 32 → length (turned_of x) ≡ 32
unfolding turned_of
turned_length x e = swaps-length whole x ∙ e

at_code : (x : List ℕ) → length x ≡ 32 → (n : ℕ) → n < 2048
    → bit_of (n % 64) (get_or (turned_of x) (n / 64) 0) ≡ bit_of (n % 64 / 32 * 32 + n / 64) (get_or x (n % 64 % 32) 0)
unfolding right_at turned_of
at_code x e n l = traced whole x _ _ (rw e (at_each right_at (replicate 2048 0) all_right n l))

at_place : (x : List ℕ) → length x ≡ 32 → (w i : ℕ) → w < 32 → i < 64
    → bit_of i (get_or (turned_of x) w 0) ≡ bit_of (i / 32 * 32 + w) (get_or x (i % 32) 0)
at_place x e w i p q =
    let a : (w * 64 + i) / 64 ≡ w = omega arith in
    let b : (w * 64 + i) % 64 ≡ i = omega arith in
    simp (a, b) at (at_code x e (w * 64 + i) (omega arith))

pub laws : TurnLaws
laws = record { at = at_place; turned_length = turned_length }
