-- A test of each number below a bound, parts of a list, a list with some of its elements overwritten, and the patches of a call.
-- Assumes nothing.
use Rattle.std.specs.Prelude.{ℕ, zero, suc, Bool, true, false, ◌||◌, List, [], ◌∷◌, ◌++◌, take, drop}

-- The first where the test holds, else the second.
abbrev pub choose {ℓ} : {A : Type ℓ} → Bool → A → A → A
choose true a b = a
choose false a b = b

-- Whether f holds of a number below n.
unfoldable pub any_below : (f : ℕ → Bool) → (n : ℕ) → Bool
any_below f zero = false
any_below f (suc n) = any_below f n || f n

module _ {ℓ} {A : Type ℓ} where
  -- The n elements from place at on.
  abbrev pub part : ℕ → ℕ → List A → List A
  part at n s = take n (drop at s)

  -- s with d over what stood from place at on; the length stays, and what would lie past the end is dropped.
  unfoldable pub overlay : List A → ℕ → List A → List A
  overlay [] at d = []
  overlay (x ∷ s) (suc at) d = x ∷ overlay s at d
  overlay (x ∷ s) zero [] = x ∷ s
  overlay (x ∷ s) zero (y ∷ d) = y ∷ overlay s zero d

  -- f 0, f 1, .. f (n - 1), end to end.
  unfoldable pub joined : ℕ → (ℕ → List A) → List A
  joined zero f = []
  joined (suc n) f = joined n f ++ f n

-- Bytes that a call stores from a place of the device on.
pub record Patch : Type 0 where
  pub at : ℕ
  pub bytes : List ℕ

-- A device with patches stored in order.
unfoldable pub patched : List Patch → List ℕ → List ℕ
patched [] device = device
patched (p ∷ ps) device = patched ps (overlay device p.at p.bytes)
