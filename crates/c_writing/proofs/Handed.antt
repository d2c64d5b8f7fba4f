-- What the C function hands over: where a struct has another size, and by what the call leaves where all have theirs. Assumes nothing.
use Prim.Native.Nat.{ℕ}
use mathlib.Core.Path.{◌≡◌, refl, ap, ◌∙◌}
use mathlib.Core.List.{List}
use lib.ListN.{length}
use borrow.Author.Tests.{eq-eqb, ne_eqb}
use Rattle.model.specs.declared.Session.{Session}
use Rattle.model.specs.Session.{Outcome}
use Rattle.model.specs.Write.{WriteResult}
use Rattle.model.specs.Answers.{Leaves}
use Rattle.records.specs.Structs.{session_bytes, handed_back}
use Rattle.replies.specs.Written.{written_bytes}
use Rattle.replies.specs.Answers.{write_number}
use Rattle.c_writing.specs.Handed.{WriteHanded}

module _ {session₀ written₀ device₀ maps₀ owners₀ : List ℕ} {position₀ : ℕ} {o : Outcome WriteResult} where
  pub write_written : (length written₀ ≡ 24 → ⊥)
      → WriteHanded session₀ written₀ o device₀ maps₀ owners₀ position₀ 13 device₀ maps₀ owners₀ position₀ session₀ written₀
  write_written other =
      let e = ne_eqb (length written₀) 24 other in
      record {
        number_is = rw e refl;
        told = rw e refl;
        stored = rw e refl;
        mapped = rw e refl;
        owned = rw e refl;
        moved = rw e refl;
        handed = refl;
      }

  pub write_session : {written : List ℕ} → length written₀ ≡ 24 → (length session₀ ≡ 648 → ⊥)
      → written ≡ written_bytes (WriteResult.Refused 13 0)
      → WriteHanded session₀ written₀ o device₀ maps₀ owners₀ position₀ 13 device₀ maps₀ owners₀ position₀ session₀ written
  write_session sized other told =
      let d = eq-eqb (length written₀) 24 sized in
      let e = ne_eqb (length session₀) 648 other in
      record {
        number_is = rw (d, e) refl;
        told = rw (d, e) told;
        stored = rw (d, e) refl;
        mapped = rw (d, e) refl;
        owned = rw (d, e) refl;
        moved = rw (d, e) refl;
        handed = refl;
      }

  pub write_sized_lem : {a : WriteResult} {device maps owners session written : List ℕ} {position number : ℕ} {s : Session}
      → length written₀ ≡ 24 → length session₀ ≡ 648 → Leaves WriteResult o device₀ a device maps owners position s
      → number ≡ write_number a → written ≡ written_bytes a → session ≡ handed_back number (session_bytes s) session₀
      → WriteHanded session₀ written₀ o device₀ maps₀ owners₀ position₀ number device maps owners position session written
  write_sized_lem {number = number} sized₁ sized₂ left numbered told back =
      let d = eq-eqb (length written₀) 24 sized₁ in
      let e = eq-eqb (length session₀) 648 sized₂ in
      record {
        number_is = rw (d, e) (numbered ∙ ap write_number left.answered);
        told = rw (d, e) (told ∙ ap written_bytes left.answered);
        stored = rw (d, e) left.stored;
        mapped = rw (d, e) left.mapped;
        owned = rw (d, e) left.owned;
        moved = rw (d, e) left.moved;
        handed = back ∙ ap (λ (t : Session). handed_back number (session_bytes t) session₀) left.handed;
      }
