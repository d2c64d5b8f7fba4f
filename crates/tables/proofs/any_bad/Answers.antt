-- `tables::any_bad` meets its contract. Assumes nothing.
use mathlib.Core.Path.{◌≡◌, refl, ◌∙◌}
use mathlib.Core.Bool.{Bool}
use Prim.Native.Nat.{ℕ, ◌+◌}
use borrow.Author.Rules.{rules}
use Rattle.std.specs.List.{list_any, range_with_len}
use Rattle.std.proofs.lemmas.Iterator.{YieldsList-from_range}
use Rattle.std.proofs.lemmas.Iterator.Search.{any_from_yields_List}
use Rattle.model.specs.Session.{entry, bad_entry_at}
use Rattle.tables.proofs.Below.{list_any-range}
use Rattle.tables.proofs.any_bad.Goals as goal

pub returns : goal.returns
returns c =
    let a = c.args in
    let bad : ℕ → Bool = λ e. bad_entry_at a.g.p a.count (a.first + e) (entry a.maps.now a.g a.volume (a.first + e)) in
    let found : c.any.result ≡ list_any bad (range_with_len 0 a.n) =
    any_from_yields_List bad _ _ _ c.any.ensures.ran (YieldsList-from_range 0 a.n a.n refl (search rules)) (λ x b q k. search rules) in
    found ∙ list_any-range bad a.n
