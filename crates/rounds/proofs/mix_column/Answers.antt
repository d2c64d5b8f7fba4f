-- `rounds::mix_column` meets its contract, byte by byte: XTIMES is linear on bytes. Assumes nothing.
use Prim.Native.Nat.{ℕ}
use lib.ListN.{get_or}
use mir.Syntax.{w8}
use mir.Val.{Fits}
use borrow.Author.Rules.{rules}
use Rattle.rounds.proofs.Words.{four_equal}
use Rattle.rounds.proofs.Linear.{mix_product}
use Rattle.rounds.proofs.mix_column.Goals as goal

pub returns : goal.returns
returns c =
    let a = c.args.a in
    let byte : (i : ℕ) → Fits w8 (get_or a i 0) = λ i. search (rules, c.well_formed) in
    four_equal (mix_product _ _ _ _ (byte 0).fits (byte 1).fits c.xtime.ensures)
    (mix_product _ _ _ _ (byte 1).fits (byte 2).fits c.xtime-2.ensures)
    (mix_product _ _ _ _ (byte 2).fits (byte 3).fits c.xtime-3.ensures)
    (mix_product _ _ _ _ (byte 3).fits (byte 0).fits c.xtime-4.ensures)
