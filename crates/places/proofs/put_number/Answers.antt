-- `places::put_number` meets its contract. Assumes nothing.
use mathlib.Core.Path.{ap, ◌∙◌}
use mathlib.Core.List.{List}
use Prim.Native.Nat.{ℕ}
use lib.ListN.{take, drop}
use Rattle.model.specs.Parts.{overlay}
use Rattle.places.proofs.Numbers.{low_four}
use Rattle.places.proofs.put_number.Goals as goal

pub returns : goal.returns
returns c =
    let a = c.args in
    c.store.ensures ∙ ap (λ (bytes : List ℕ). overlay a.buf.now a.at (take 4 (drop 4 bytes))) c.to_be_bytes-bytes.ensures
    ∙ ap (overlay a.buf.now a.at) (low_four a.n)
