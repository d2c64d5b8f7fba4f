-- Runs of accepted draws (document 02, P6). Assumes nothing.
use Rattle.std.specs.Prelude.{ℕ, zero, suc, ◌-◌, List, [], ◌∷◌}
use Rattle.model.specs.Conditions.{Accepts}

-- One number for each place from i down to 1, each of which suits the place's number of choices, one more than the place.
abbrev pub OneEach : (Suits : (choices x : ℕ) → Type 0) → (i : ℕ) → List ℕ → Type 0
OneEach Suits zero [] = Unit
OneEach Suits zero (x ∷ xs) = ⊥
OneEach Suits (suc i) [] = ⊥
OneEach Suits (suc i) (x ∷ xs) = Suits (suc (suc i)) x × OneEach Suits i xs

-- An accepted draw for each place of P, from the last down to 1.
abbrev pub AcceptedRun : (p : ℕ) → (draws : List ℕ) → Type 0
AcceptedRun p ds = OneEach Accepts (p - 1) ds
