-- `LineReader::keep` of `walk` meets its contract. Assumes nothing.
use native.Mathlib.Omega.{arith}
use borrow.Author.Rules.{rules}
use mathlib.Core.Path.{◌≡◌}
use Rattle.walk.proofs.Pieces.{take_least, kept_more}
use Rattle.walk.proofs.LineReader.keep.Goals as goal
use lib.ListN.{length}

pub returns-clause-line : goal.returns-clause-line
returns-clause-line c =
    let r = c.args.self.now in
    let more = c.args.more.now in
    let long : length r.line ≡ 1027 = search (rules, c.well_formed) in
    rw c.copy_from_slice.ensures.after
    (kept_more r.line more _ r.used c.min-used.result c.min-n.result long (take_least r.line _ _ (omega arith) (λ l. omega arith)) (omega arith)
    (omega arith) (take_least more _ _ (omega arith) (λ l. omega arith)))
