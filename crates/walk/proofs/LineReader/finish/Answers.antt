-- `LineReader::finish` of `walk` meets its contract. Assumes nothing.
use mathlib.Core.Path.{◌≡◌, refl, sym}
use native.Mathlib.Omega.{arith}
use lib.ListN.{length, take, length-take}
use borrow.Author.Rules.{rules}
use Rattle.lines.proofs.Printing.{overlay_nil}
use Rattle.walk.specs.Lines.{outputs, finish}
use Rattle.walk.specs.Answers.{reader_of}
use Rattle.walk.proofs.Pieces.{finish_line, take_least}
use Rattle.walk.proofs.LineReader.finish.Goals as goal

pub returns-then-self-eq0-clause-printed : goal.returns-then-self-eq0-clause-printed
unfolding finish outputs
returns-then-self-eq0-clause-printed c =
    rw c.if-self-eq0.true (record { put = sym (overlay_nil c.args.out.now); long = refl; fits = omega arith })

pub returns-clause-printed : goal.returns-clause-printed
returns-clause-printed c =
    let r = c.args.self.now in
    let long : length r.line ≡ 1027 = search (rules, c.well_formed) in
    let same : take r.used r.line ≡ take c.min-kept.result r.line = take_least r.line _ _ (omega arith) (λ l. omega arith) in
    rw (finish_line (reader_of r) (simp length-take (omega arith)), same) c.step.ensures.printed
