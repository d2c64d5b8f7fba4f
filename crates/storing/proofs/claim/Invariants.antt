-- `storing::claim` meets its contract. The loop's invariant: n data blocks stand behind the IV block. Assumes nothing.
use Rattle.std.proofs.Common.{◌≡◌, ◌+◌}
use Rattle.model.specs.Parts.{overlay, joined}
use Rattle.model.proofs.Blocks.{claimed_block}
use Rattle.storing.proofs.claim.Given as goal

abbrev pub invariant-loop-n : goal.invariant-loop-n
invariant-loop-n l =
    l.device ≡ overlay l.initial.device (l.start + l.g.b) (joined l.n (claimed_block l.g.b l.key l.ivs l.j l.text))
