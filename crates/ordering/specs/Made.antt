-- What a shuffle makes before the tape position moves. Assumes nothing.
use Rattle.std.specs.Prelude.{ℕ, ◌+◌, ◌≤◌, ◌<◌, List}
use Rattle.model.specs.Session.{LentResult}
use Rattle.model.specs.Answers.{LentLeaves}

-- What making the list has to leave: the answer, the list, and how many bytes it used of the tape, which has them.
pub record Makes (r : LentResult) (list₀ : List ℕ) (tape position number : ℕ) (list : List ℕ) (used : ℕ) : Type 0 where
  pub leaves : LentLeaves r list₀ position number list (position + used)
  pub enough : 0 < used → position + used ≤ tape
