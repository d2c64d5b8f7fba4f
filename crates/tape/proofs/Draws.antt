-- Laws of a draw: of what the tape has, and of nothing. Assumes nothing.
use Prim.Native.Nat.{ℕ, ◌+◌, ◌-◌, ◌≤◌}
use mathlib.Core.Path.{◌≡◌, refl, ap, ◌∙◌}
use mathlib.Core.List.{List}
use mathlib.Core.Bool.{Bool, true, false}
use native.Mathlib.Nat.{add-zero}
use native.Mathlib.Omega.{arith}
use lib.ListN.{length}
use borrow.Author.Tests.{le-ltb}
use Rattle.model.specs.Parts.{choose, part}
use Rattle.model.specs.Session.{short}
use Rattle.model.proofs.Parts.{part_length}
use Rattle.tape.specs.Draw.{drawn, past}

pub not_short : (tape at n : ℕ) → at + n ≤ tape → short tape at n ≡ false
unfolding short
not_short tape at n h = rw (le-ltb tape at (omega (arith, h)), le-ltb (tape - at) n (omega (arith, h))) refl

module _ (tape : List ℕ) (at n : ℕ) (h : at + n ≤ length tape) where
  pub drawn_enough : drawn tape at n ≡ part at n tape
  drawn_enough = rw (not_short (length tape) at n h) refl

  pub drawn_length : length (drawn tape at n) ≡ n
  drawn_length = ap length drawn_enough ∙ part_length tape at n h

  pub past_enough : past tape at n ≡ at + n
  past_enough = rw (not_short (length tape) at n h) refl

-- Nothing is drawn, whatever the position.
stays : (b : Bool) (at : ℕ) → choose b at (at + 0) ≡ at
stays true at = refl
stays false at = add-zero at

pub past_none : (tape : List ℕ) (at : ℕ) → past tape at 0 ≡ at
past_none tape at = stays (short (length tape) at 0) at
