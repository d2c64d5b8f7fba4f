-- `places::any_bad_count` meets its contract. Assumes nothing.
use mathlib.Core.Path.{◌≡◌, refl, ◌∙◌}
use lib.ListN.{take}
use borrow.Author.Rules.{rules}
use Rattle.std.specs.List.{list_any}
use Rattle.std.proofs.lemmas.Iterator.{YieldsList-from_slice}
use Rattle.std.proofs.lemmas.Iterator.Search.{any_from_yields_List}
use Rattle.model.specs.Geometry.{bad_count, any_bad_count}
use Rattle.model.proofs.Below.{list_any-below}
use Rattle.places.proofs.any_bad_count.Goals as goal

pub returns : goal.returns
unfolding any_bad_count
returns c =
    let a = c.args in
    let found : c.any.result ≡ list_any (bad_count a.p) (take a.n a.counts.now) =
    any_from_yields_List (bad_count a.p) _ _ _ c.any.ensures.ran (YieldsList-from_slice (take a.n a.counts.now) (search rules)) (λ x b q k. search rules) in
    found ∙ list_any-below (bad_count a.p) _ a.counts.now a.n c.requires (λ i l. refl)
