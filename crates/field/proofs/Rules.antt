-- The two computed tests: a table against SBOX, and the inverse of every byte. Assumes nothing.
use mathlib.Core.Path.{◌≡◌}
use mathlib.Core.Bool.{Bool, true}
use mathlib.Core.List.{List}
use Prim.Native.Nat.{ℕ, zero, suc, ◌<◌}
use native.Mathlib.Omega.{arith}
use lib.Dec.{T, eqb, eqb→eq}
use lib.ListN.{length, get_or, replicate}
use Rattle.field.specs.Field.{xtimes, times_bits, times, squared, squares, inverse}
use Rattle.field.specs.Sbox.{sbox, IsSbox}
use Rattle.field.proofs.Table.{all, at_each}

-- An entry x at place n is SBOX of n.
unfoldable pub is_sbox : ℕ → ℕ → Bool
is_sbox n x = eqb x (sbox n)

pub sbox-rule : (t : List ℕ) → T (all is_sbox 0 t) → length t ≡ 256 → IsSbox t
unfolding is_sbox
sbox-rule t p e =
    record { at = λ x h. eqb→eq (get_or t x 0) (sbox x) (at_each is_sbox t p x (omega arith)) }

-- Where n is not 0, n • n⁻¹ is 1.
unfoldable inverts_at : ℕ → ℕ → Bool
inverts_at zero x = true
inverts_at (suc n) x = eqb (times (suc n) (inverse (suc n))) 1

all_invert : T (all inverts_at 0 (replicate 256 0))
unfolding inverts_at xtimes times_bits times squared squares inverse
all_invert = tt

pub times-inverse : (x : ℕ) → 0 < x → x < 256 → times x (inverse x) ≡ 1
unfolding inverts_at
times-inverse zero h k = absurd (omega arith)
times-inverse (suc n) h k = eqb→eq (times (suc n) (inverse (suc n))) 1 (at_each inverts_at (replicate 256 0) all_invert (suc n) k)
