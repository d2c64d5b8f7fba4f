-- The number of an opening's answer is that of its result. Assumes nothing.
use Prim.Native.Nat.{ℕ}
use mathlib.Core.Path.{◌≡◌, refl}
use Rattle.std.specs.Prelude.{Result, Ok, Err}
use Rattle.refusals.specs.Numbers.{answer_number}
use Rattle.refusals.specs.declared.Refusal.{Refusal}
use Rattle.model.specs.Answers.{open_result}
use Rattle.replies.specs.Answers.{open_number}

pub open_number_answer : (a : Result ℕ Refusal) → answer_number a ≡ open_number (open_result a)
open_number_answer (Ok k) = refl
open_number_answer (Err r) = refl
