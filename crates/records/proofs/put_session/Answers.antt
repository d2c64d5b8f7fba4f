-- `records::put_session` meets its contract. Assumes nothing.
use borrow.Author.Rules.{rules}
use Rattle.records.proofs.Structs.{bit_of-from_bool, overlay_session}
use Rattle.records.proofs.put_session.Goals as goal

pub returns : goal.returns
returns c =
    rw (
      c.put_counts.ensures,
      c.store.ensures,
      c.put_three-2.ensures,
      c.put_three.ensures,
      c.from.ensures,
      bit_of-from_bool c.args.s.opened,
    )
    (overlay_session c.args.r.now c.args.s c.requires (search rules) (search rules))
