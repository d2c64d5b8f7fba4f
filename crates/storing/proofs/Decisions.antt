-- What a decision needs to be carried out, by its kind. Assumes nothing.
use Rattle.std.proofs.Common.{ℕ, ◌≡◌, List}
use Rattle.model.specs.declared.Session.{Session}
use Rattle.model.specs.Write.{claim_need}
use Rattle.model.proofs.Requests.{Writable, write_refusal_none}
use Rattle.deciding.specs.declared.Decision.{Decision}
use Rattle.deciding.specs.declared.Decision.TheVariants.{Rewrite, Claim}
use Rattle.deciding.specs.Decided.{Fits, Looked, Ready}

module _ {device : ℕ} {maps owners : List ℕ} {s : Session} {i a text drawn : ℕ} where
  pub rewrites : {d : Decision} {ψ : ℕ} → Ready device maps owners s i a text drawn d → d ≡ Rewrite ψ
      → Fits device maps owners s i a text drawn ψ 16
  rewrites ready e = rw e at ready

  pub claims : {d : Decision} {ψ place : ℕ} → Ready device maps owners s i a text drawn d → d ≡ Claim ψ place
      → Fits device maps owners s i a text drawn ψ (claim_need s.geometry) × Looked s place
  claims ready e = rw e at ready

  pub writable : {ψ need : ℕ} (f : Fits device maps owners s i a text drawn ψ need) → Writable device maps owners s i a text f.perm
  writable f = write_refusal_none _ _ _ _ _ _ _ _ f.none
