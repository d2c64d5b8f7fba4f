-- The refusals of counter mode from any byte. Assumes nothing.
use mathlib.Core.Path.{◌≡◌}
use Prim.Native.Nat.{ℕ, zero, suc, ◌<◌, ◌≤◌}
use native.Mathlib.Omega.{arith}
use borrow.Author.Tests.{lt-ltb, le-ltb}
use Rattle.refusals.specs.Numbers.{refuse}
use Rattle.ctr.specs.Call.{ctr_refusal}
use Rattle.c_ciphers.specs.From.{from_refusal}

module _ (k v t o p : ℕ) where
  -- A refusal of counter mode comes first.
  pub from_refused : {n : ℕ} → n ≡ ctr_refusal k v t o → 0 < n → n ≡ from_refusal k v t o p
  unfolding from_refusal
  from_refused {n = zero} e l = absurd (omega arith)
  from_refused {n = suc n} e l = rw (← e)

  pub from_far : 0 ≡ ctr_refusal k v t o → 1099511627776 < p → 13 ≡ from_refusal k v t o p
  unfolding from_refusal refuse
  from_far e h = rw (← e, lt-ltb 1099511627776 p h)

  pub from_served : 0 ≡ ctr_refusal k v t o → p ≤ 1099511627776 → 0 ≡ from_refusal k v t o p
  unfolding from_refusal refuse
  from_served e h = rw (← e, le-ltb 1099511627776 p h)
