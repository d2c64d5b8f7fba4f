-- `records::counts_in` meets its contract. After i turns the first i counts are those of the struct. Assumes nothing.
use native.Mathlib.Omega.{arith}
use Rattle.records.proofs.Numbers.{numbers_at_entries}
use Rattle.records.proofs.counts_in.Goals as goal

pub returns : goal.returns
returns c =
    let l = c.loop-i in
    numbers_at_entries 15 528 c.args.r.now l.counts l.invariant.0 (λ j h. l.invariant.1 j (omega (arith, h)))
