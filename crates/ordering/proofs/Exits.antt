-- What making a list leaves, by its answer. Assumes nothing.
use Prim.Native.Nat.{ℕ, ◌-◌, ◌≤◌, ◌<◌}
use mathlib.Core.Path.{◌≡◌, refl}
use mathlib.Core.List.{List}
use native.Mathlib.Omega.{arith}
use Rattle.refusals.specs.Numbers.{unless_refused}
use Rattle.refusals.proofs.Refuse.{unless_refused_refused}
use Rattle.model.specs.Session.{LentResult, Served, Refused}
use Rattle.ordering.specs.Made.{Makes}

module _ {r : LentResult} {old : List ℕ} {tape position : ℕ} where
  pub makes_served : {list : List ℕ} {at : ℕ} → r ≡ Served list at → position ≤ at → at ≤ tape
      → Makes r old tape position 0 list (at - position)
  makes_served e passed inside =
      rw e (record { leaves = record { answered = refl; stored = refl; moved = omega arith }; enough = λ l. omega arith })

  pub makes_refused : {n : ℕ} → r ≡ Refused n → Makes r old tape position n old 0
  makes_refused e =
      rw e (record { leaves = record { answered = refl; stored = refl; moved = omega arith }; enough = λ l. absurd (omega arith) })

  pub makes_same : {r' : LentResult} {number : ℕ} {list : List ℕ} {used : ℕ} → r ≡ r'
      → Makes r old tape position number list used → Makes r' old tape position number list used
  makes_same e made = rw e at made

  -- A list that was made beside: the lent one stays where that is refused, and becomes it else.
  module _ {number : ℕ} (list : List ℕ) {used : ℕ} (made : Makes r old tape position number (unless_refused number list old) used) where
    pub makes_kept : 0 < number → Makes r old tape position number old used
    makes_kept l = rw (unless_refused_refused number list old l) at made

    pub makes_stored : number ≡ 0 → {list' : List ℕ} → list' ≡ list → Makes r old tape position number list' used
    unfolding unless_refused
    makes_stored e same = rw same (rw e (rw e at made))
