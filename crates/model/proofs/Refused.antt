-- What a refused call stores and leaves. Assumes nothing.
use Prim.Native.Nat.{ℕ, zero, suc}
use mathlib.Core.Path.{◌≡◌, refl}
use mathlib.Core.List.{List, []}
use mathlib.Core.Bool.{Bool, true, false}
use native.Mathlib.Omega.{arith}
use lib.Dec.{ltb}
use Rattle.model.specs.declared.Search.{Search}
use Rattle.model.specs.declared.Search.TheVariants.{Free, Bad, Full}
use Rattle.model.specs.Parts.{choose}
use Rattle.model.specs.Session.{Held, Outcome, geometry, entry_of, standing, short, unless, idle}
use Rattle.model.specs.Search.{first_free}
use Rattle.model.specs.Maps.{bad_in_block}
use Rattle.model.specs.Write.{WriteResult, rewrite_outcome, claim_outcome, write_refusal, write_model}
use Rattle.model.specs.Release.{ReleaseResult, release_refusal, release_model}
use Rattle.model.specs.Close.{CloseResult, close_model}

-- The two ends of a chain of refusals.
pub unless-cases : {A : Type 0} (P : A → Type 0) (n : ℕ) (refusal : ℕ → A) (served : A)
    → ((r : ℕ) → n ≡ suc r → P (refusal (suc r))) → (n ≡ 0 → P served) → P (unless n refusal served)
unless-cases P zero refusal served refused-case served-case = served-case refl
unless-cases P (suc n) refusal served refused-case served-case = refused-case n refl

-- Either way of a test.
choose_either : {A : Type 0} (P : A → Type 0) (b : Bool) {x y : A} → P x → P y → P (choose b x y)
choose_either P true yes-case no-case = yes-case
choose_either P false yes-case no-case = no-case

-- Where the answer is a, nothing is stored and all that is held stays.
pub record Idle {A : Type 0} (h : Held) (a : A) (o : Outcome A) : Type 0 where
  pub leaves : o.answer ≡ a → (o.patches ≡ []) × (o.held ≡ h)

-- The same of a refused write, but for the session by 22.
pub record IdleWrite (h : Held) (n probes : ℕ) (o : Outcome WriteResult) : Type 0 where
  pub leaves : o.answer ≡ WriteResult.Refused n probes
      → (o.patches ≡ []) × ((n ≡ 22 → ⊥) → o.held ≡ h)
      × ((o.held.maps ≡ h.maps) × (o.held.owners ≡ h.owners) × (o.held.position ≡ h.position))

module _ (device : ℕ) (h : Held) where
  pub close_refused : (n : ℕ) → Idle h (CloseResult.Refused n) (close_model device h)
  unfolding close_model
  close_refused n =
      unless-cases (Idle h (CloseResult.Refused n)) (standing _ _ _ _ _) _ _ (λ r e. record { leaves = λ q. (refl, refl) })
      (λ e. record { leaves = λ q. let z : ◌≡◌ {A = ℕ} 0 1 = cc in absurd (omega arith) })

  pub release_refused : (i σ : ℕ) (perm tape : List ℕ) (n : ℕ) → Idle h (ReleaseResult.Refused n) (release_model device h i σ perm tape)
  unfolding release_model
  release_refused i σ perm tape n =
      unless-cases (Idle h (ReleaseResult.Refused n)) (release_refusal _ _ _ _ _ _) _ _ (λ r e. record { leaves = λ q. (refl, refl) })
      (λ e. record { leaves = λ q. let z : ◌≡◌ {A = ℕ} 0 1 = cc in absurd (omega arith) })

  module _ (i a : ℕ) (text perm tape : List ℕ) (n probes : ℕ) where
    abbrev P : Outcome WriteResult → Type 0
    P = IdleWrite h n probes

    unchanged : {x : WriteResult} → P (idle h x)
    unchanged = record { leaves = λ q. (refl, λ other. refl, (refl, refl, refl)) }

    rewrites : (ψ j : ℕ) → P (rewrite_outcome h i ψ j text tape)
    rewrites ψ j =
        choose_either P (short _ _ _) unchanged (record { leaves = λ q. let z : ◌≡◌ {A = ℕ} 0 1 = cc in absurd (omega arith) })

    claims : (σ j : ℕ) (s : Search) → P (claim_outcome h i σ j text tape s)
    claims σ j (Bad place) = unchanged
    claims σ j Full = record { leaves = λ q. (refl, λ other. absurd (other (cc)), (refl, refl, refl)) }
    claims σ j (Free ψ place) =
        choose_either P (short _ _ _) unchanged (record { leaves = λ q. let z : ◌≡◌ {A = ℕ} 0 1 = cc in absurd (omega arith) })

    pub write_refused : IdleWrite h n probes (write_model device h i a text perm tape)
    unfolding write_model
    write_refused =
        unless-cases P (write_refusal _ _ _ _ _ _ _ _) _ _ (λ r e. unchanged)
        (λ e. choose_either P (ltb (entry_of h.maps (geometry h) i a) (geometry h).p) (rewrites _ _)
        (choose_either P (bad_in_block _ _ _ _) unchanged (claims _ _ (first_free _ _ _ _))))
