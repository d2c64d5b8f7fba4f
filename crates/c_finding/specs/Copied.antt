-- A found part, handed over in a buffer. Assumes nothing.
use Rattle.std.specs.Prelude.{ℕ, List, leb, length}
use Rattle.model.specs.Parts.{choose, overlay}

-- A buffer after a found part was copied to its start, where it has room for it.
abbrev pub copied_over : (found old : List ℕ) → List ℕ
copied_over found old = choose (leb (length found) (length old)) (overlay old 0 found) old
