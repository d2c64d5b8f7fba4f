-- Flags, one for each slice. Assumes nothing.
use Rattle.std.specs.Prelude.{ℕ, List, [], ◌∷◌, set}

-- The flags after that of each slice of a list is set to 1; a slice without a flag changes nothing.
unfoldable pub flagged : (slices flags : List ℕ) → List ℕ
flagged [] flags = flags
flagged (ψ ∷ slices) flags = flagged slices (set flags ψ 1)
