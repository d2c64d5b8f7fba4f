-- What the C function hands over: where a struct has another size, and by what the call leaves where all have theirs. Assumes nothing.
use Prim.Native.Nat.{ℕ}
use mathlib.Core.Path.{◌≡◌, refl, ap, ◌∙◌}
use mathlib.Core.List.{List}
use lib.ListN.{length}
use borrow.Author.Tests.{eq-eqb, ne_eqb}
use Rattle.std.specs.Prelude.{Result}
use Rattle.refusals.specs.Numbers.{answer_number}
use Rattle.refusals.specs.declared.Refusal.{Refusal}
use Rattle.model.specs.declared.Session.{Session}
use Rattle.model.specs.Opening.{OpenOutcome, OpenResult}
use Rattle.model.specs.Answers.{open_result, OpenLeaves}
use Rattle.records.specs.Structs.{session_bytes}
use Rattle.replies.specs.Answers.{open_number}
use Rattle.replies.proofs.Answers.{open_number_answer}
use Rattle.c_opening.specs.Handed.{OpenHanded}

module _ {geometry session₀ maps₀ owners₀ : List ℕ} {o : OpenOutcome} where
  pub open_geometry : (length geometry ≡ 24 → ⊥) → OpenHanded geometry session₀ o maps₀ owners₀ 13 maps₀ owners₀ session₀
  open_geometry other =
      let e = ne_eqb (length geometry) 24 other in
      record { number_is = rw e refl; mapped = rw e refl; owned = rw e refl; handed = rw e refl }

  pub open_session_lem : length geometry ≡ 24 → (length session₀ ≡ 648 → ⊥) → OpenHanded geometry session₀ o maps₀ owners₀ 13 maps₀ owners₀ session₀
  open_session_lem sized other =
      let d = eq-eqb (length geometry) 24 sized in
      let e = ne_eqb (length session₀) 648 other in
      record { number_is = rw (d, e) refl; mapped = rw (d, e) refl; owned = rw (d, e) refl; handed = rw (d, e) refl }

  pub open_sized_lem : {a : OpenResult} {maps owners session : List ℕ} {s : Session} {number : ℕ} → length geometry ≡ 24 → length session₀ ≡ 648
      → OpenLeaves o a maps owners s → number ≡ open_number a → session ≡ session_bytes s
      → OpenHanded geometry session₀ o maps₀ owners₀ number maps owners session
  open_sized_lem sized₁ sized₂ left number bytes =
      let d = eq-eqb (length geometry) 24 sized₁ in
      let e = eq-eqb (length session₀) 648 sized₂ in
      record {
        number_is = rw (d, e) (number ∙ ap open_number left.answered);
        mapped = rw (d, e) left.mapped;
        owned = rw (d, e) left.owned;
        handed = rw (d, e) (bytes ∙ ap session_bytes left.handed);
      }

  -- The same of an answer as the code has it.
  pub open_answered : (a : Result ℕ Refusal) {maps owners session : List ℕ} {s : Session} {number : ℕ} → length geometry ≡ 24 → length session₀ ≡ 648
      → OpenLeaves o (open_result a) maps owners s → number ≡ answer_number a → session ≡ session_bytes s
      → OpenHanded geometry session₀ o maps₀ owners₀ number maps owners session
  open_answered a sized₁ sized₂ left number bytes = open_sized_lem sized₁ sized₂ left (number ∙ open_number_answer a) bytes
