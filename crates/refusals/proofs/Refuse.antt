-- Laws of chains of refusals, and of a buffer after a refusal. Assumes nothing.
use Prim.Native.Nat.{ℕ, zero, suc, ◌<◌}
use mathlib.Core.Path.{◌≡◌, refl, ap}
use mathlib.Core.Bool.{Bool, true, false}
use native.Mathlib.Omega.{arith}
use Rattle.refusals.specs.Numbers.{refuse, unless_refused}

-- No refusal: this condition does not hold, and nothing that follows refuses.
pub refuse_none : (b : Bool) (n r : ℕ) → refuse b (suc n) r ≡ 0 → (b ≡ false) × (r ≡ 0)
unfolding refuse
refuse_none true n r e = absurd (omega arith)
refuse_none false n r e = (refl, e)

pub refuse_false : (b : Bool) (n r : ℕ) → b ≡ false → refuse b n r ≡ r
unfolding refuse
refuse_false b n r e = ap (λ (x : Bool). refuse x n r) e

-- A chain that refuses before its rest is reached says the same for every rest.
abbrev pub Stands-first : (ℕ → ℕ) → Type 0
Stands-first chain = 0 < chain 0 → (rest : ℕ) → chain rest ≡ chain 0

pub rest_first : Stands-first (λ rest. rest)
rest_first l rest = absurd (omega arith)

pub refuse-first : (b : Bool) (n : ℕ) (chain : ℕ → ℕ) → Stands-first chain → Stands-first (λ rest. refuse b n (chain rest))
unfolding refuse
refuse-first true n chain first l rest = refl
refuse-first false n chain first l rest = first l rest

-- A buffer after a refusal is as it was.
pub unless_refused_refused : {A : Type 0} (n : ℕ) (new old : A) → 0 < n → unless_refused n new old ≡ old
unfolding unless_refused
unless_refused_refused zero new old l = absurd (omega arith)
unless_refused_refused (suc n) new old l = refl
