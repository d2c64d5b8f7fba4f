-- `closing::close` meets its contract. Assumes nothing.
use Rattle.closing.proofs.Outcomes.{close_refused, close_served}
use Rattle.closing.proofs.close.Goals as goal

pub returns-in-Err : goal.returns-in-Err
returns-in-Err c = close_refused _ _ _ _ c.check_standing-standing.ensures c.in-Err.is

pub returns : goal.returns
returns c =
    close_served _ _ _ _ c.check_standing-standing.ensures c.in_default.is c.unmap.ensures (c.fill.ensures.after (λ y h. h)) c.closed_session.ensures
