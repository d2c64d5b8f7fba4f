-- `records::put_three` meets its contract. Assumes nothing.
use Rattle.records.proofs.Structs.{overlay_three}
use Rattle.records.proofs.put_three.Goals as goal

pub returns : goal.returns
returns c =
    let a = c.args in
    rw (c.put_eight-3.ensures, c.put_eight-2.ensures, c.put_eight.ensures) (overlay_three a.r.now a.at a.x a.y a.z)
