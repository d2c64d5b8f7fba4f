-- `shuffling::make_beside` meets its contract. Assumes nothing.
use Rattle.std.proofs.Common.{ℕ, ◌≡◌, refl, ap, ◌∙◌, ◌-◌, List, length, drop, rules, Err}
use Rattle.refusals.specs.Numbers.{unless_refused}
use Rattle.refusals.proofs.Positive.{refusal_positive}
use Rattle.model.specs.Shuffle.{in_order, run, draws, shuffled}
use Rattle.ordering.specs.Made.{Makes}
use Rattle.ordering.proofs.Exits.{makes_same, makes_kept, makes_stored}
use Rattle.ordering.proofs.Turns.{onward_whole}
use Rattle.shuffling.proofs.make_beside.Goals as goal

-- What the run of draws made beside the lent list.
module _ (list perm filled moved tape : List ℕ) (position number used : ℕ) (long : length list ≡ length perm)
    (order : filled ≡ in_order (length list)) (kept : length filled ≡ length list) where
  made : ((old : List ℕ) → Makes (shuffled (length filled - 1) filled position (run (length filled - 1) (draws (drop position tape))))
      old (length tape) position number (unless_refused number moved old) used)
      → let p = length perm in
      Makes (shuffled (p - 1) (in_order p) position (run (p - 1) (draws (drop position tape))))
      perm (length tape) position number (unless_refused number moved perm) used
  made makes = makes_same (onward_whole _ tape position (order ∙ ap in_order long) (kept ∙ long)) (makes perm)

pub returns-in_err-used : goal.returns-in_err-used
returns-in_err-used c =
    let refusal = c.in_err-used.field-0.0 in
    let same : c.from_residual.result ≡ Err refusal = search rules in
    let all = made _ _ _ _ _ _ _ _ c.requires.0 c.set_in_order.ensures c.set_in_order.auto.list c.in_err-used.ensures in
    rw same (makes_kept _ all (refusal_positive refusal))

pub returns : goal.returns
returns c =
    makes_stored _ (made _ _ _ _ _ _ _ _ c.requires.0 c.set_in_order.ensures c.set_in_order.auto.list c.in_ok-used.ensures) refl
    c.copy_from_slice.ensures.after
