-- `replies::put_written` meets its contract. Assumes nothing.
use mathlib.Core.Path.{◌∙◌, ap}
use Rattle.records.specs.Structs.{bit_of}
use Rattle.records.proofs.Structs.{bit_of-from_bool, overlay_three_all, three_bytes-same}
use Rattle.replies.proofs.put_written.Goals as goal

pub returns-in-Served : goal.returns-in-Served
returns-in-Served c =
    rw c.in-Served.is
    (c.put_three.ensures
    ∙ overlay_three_all c.args.r.now _ _ _ c.requires
    ∙ three_bytes-same (c.from-claimed.ensures ∙ bit_of-from_bool _ ∙ ap bit_of c.change_claimed.ensures) c.change_slice.ensures _)

pub returns-in-Refused : goal.returns-in-Refused
returns-in-Refused c =
    rw c.in-Refused.is (c.put_three-in-Refused.ensures ∙ overlay_three_all c.args.r.now _ _ _ c.requires)
