-- `records::put_eight` meets its contract. Assumes nothing.
use mathlib.Core.Path.{ap, ◌∙◌}
use Rattle.model.specs.Parts.{overlay}
use Rattle.records.proofs.Numbers.{little_endian-to_le_bytes}
use Rattle.records.proofs.put_eight.Goals as goal

pub returns : goal.returns
returns c =
    let a = c.args in
    c.store.ensures ∙ ap (overlay a.r.now a.at) (c.to_le_bytes-bytes.ensures ∙ little_endian-to_le_bytes a.n)
