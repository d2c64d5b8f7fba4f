-- What the C functions hand over that are lent the struct of a geometry, one list and the tape position, format and shuffle: the outcome of
-- their call with the geometry that the struct holds; or, where the struct has another size, 13 before everything else, and all that was
-- lent stays. Assumes nothing.
use Rattle.std.specs.Prelude.{ℕ, ◌≡◌, List}
use Rattle.model.specs.Parts.{choose}
use Rattle.model.specs.Session.{LentResult}
use Rattle.model.specs.Answers.{lent_number, lent_list, lent_position}
use Rattle.records.specs.Structs.{geometry_sized}

pub record LentHanded (geometry : List ℕ) (r : LentResult) (list₀ : List ℕ) (position₀ number : ℕ) (list : List ℕ) (position : ℕ) : Type 0 where
  pub number_is : number ≡ choose (geometry_sized geometry) (lent_number r) 13
  pub stored : list ≡ choose (geometry_sized geometry) (lent_list r list₀) list₀
  pub moved : position ≡ choose (geometry_sized geometry) (lent_position r position₀) position₀
