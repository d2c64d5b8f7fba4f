-- What loading entries into the tables leaves. Assumes nothing.
use Rattle.std.specs.Prelude.{ℕ, ◌≡◌, List}
use Rattle.model.specs.Opening.{Loaded, Tables, Spoilt}

-- The number of a loading's answer, with the tables after it: 0 with the loaded tables, or the refusal 9 or 10, by which
-- the caller wipes the tables.
abbrev pub Settled : Loaded → (number : ℕ) → (maps owners : List ℕ) → Type 0
Settled (Tables m o) number maps owners = (number ≡ 0) × (maps ≡ m) × (owners ≡ o)
Settled (Spoilt n) number maps owners = (number ≡ n) × (number ≡ 0 → ⊥)
