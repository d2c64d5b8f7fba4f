-- What the model's shuffle comes to by the refusals that need no draw. Assumes nothing.
use Rattle.std.proofs.Common.{ℕ, ◌-◌, ◌≤◌, ◌<◌, ◌≡◌, refl, sym, List, length, take, drop, replicate, arith}
use Rattle.std.specs.Prelude.{not, ltb, eqb}
use lib.Seq.{length-take-le}
use Rattle.refusals.specs.Numbers.{refuse}
use Rattle.model.specs.declared.Geometry.{Geometry}
use Rattle.model.specs.Geometry.{bad_geometry}
use Rattle.model.specs.Session.{Refused}
use Rattle.model.specs.Shuffle.{in_order, run, draws, shuffled, shuffle_refusal, shuffle_model}
use Rattle.model.proofs.Tests.{bad_geometry_none, bad_geometry_allowed}
use Rattle.model.proofs.Requests.{Shufflable, shuffle_refusal_none}
use Rattle.model.proofs.Order.{unless_refused_lem}

-- The rows behind that of a geometry that is allowed.
pub geometry_passed : (g : Geometry) (list tape position : ℕ) → bad_geometry 1 g 0 ≡ 0
    → refuse (not (eqb list g.p)) 4 (refuse (ltb tape position) 21 0) ≡ shuffle_refusal g list tape position
unfolding shuffle_refusal
geometry_passed g list tape position e = sym (bad_geometry_allowed 1 g _ (bad_geometry_none 0 g 0 e).0)

module _ (g : Geometry) (perm tape : List ℕ) (position : ℕ) where
  abbrev refusal : ℕ
  refusal = shuffle_refusal g (length perm) (length tape) position

  pub shuffle_model_refused : 0 < refusal → shuffle_model g (length perm) tape position ≡ Refused refusal
  unfolding shuffle_model
  shuffle_model_refused l = unless_refused_lem refusal _ _ l

  -- What passed the refusals.
  module _ (none : refusal ≡ 0) where
    pub passed : Shufflable g (length perm) (length tape) position
    passed = shuffle_refusal_none _ _ _ _ none

    pub shuffle_model_served : let p = length perm in
        shuffle_model g p tape position ≡ shuffled (p - 1) (in_order p) position (run (p - 1) (draws (drop position tape)))
    unfolding shuffle_model
    shuffle_model_served = rw (none, passed.long) refl

    pub few : length perm ≤ 4096
    few = omega (arith, passed.long, passed.allowed.slices_most)

    -- The part of the local list that is lent is as long.
    pub lent : length (take (length perm) (replicate {A = ℕ} 4096 0)) ≡ length perm
    lent = length-take-le (length perm) (replicate 4096 0) few
