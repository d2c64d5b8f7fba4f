-- `shuffling::shuffle` meets its contract: the draw moves the position past the bytes used. Assumes nothing.
use Rattle.std.proofs.Common.{ℕ, zero, suc, ◌+◌, ◌≤◌, ◌<◌, ◌≡◌, ◌∙◌, List, length, arith, rules, add-zero, Err}
use Rattle.tape.specs.Draw.{past}
use Rattle.tape.proofs.Draws.{past_enough, past_none}
use Rattle.shuffling.proofs.shuffle.Goals as goal

-- A draw of bytes that the tape has, or of none.
past_used : (tape : List ℕ) (at used : ℕ) → (0 < used → at + used ≤ length tape) → past tape at used ≡ at + used
past_used tape at zero enough = past_none tape at ∙ omega arith
past_used tape at (suc n) enough = past_enough tape at (suc n) (enough (omega arith))

pub returns-in_err-used : goal.returns-in_err-used
returns-in_err-used c =
    let same : c.from_residual.result ≡ Err c.in_err-used.field-0.0 = search rules in
    rw same (rw (add-zero c.args.position.now.at) at c.in_err-used.ensures.leaves)

pub returns : goal.returns
returns c =
    rw (c.draw.ensures.1 ∙ past_used c.args.tape.now c.args.position.now.at c.in_ok-used.used c.in_ok-used.ensures.enough)
    c.in_ok-used.ensures.leaves
