-- A draw of n bytes from the tape (document 01, "Write"), also where fewer are left. Assumes nothing.
use Rattle.std.specs.Prelude.{ℕ, ◌+◌, List, [], length}
use Rattle.model.specs.Parts.{choose, part}
use Rattle.model.specs.Session.{short}

-- What it gives: the next n bytes, or none where fewer are left.
abbrev pub drawn : (tape : List ℕ) → (at n : ℕ) → List ℕ
drawn tape at n = choose (short (length tape) at n) [] (part at n tape)

-- Where it leaves the position: past them, or where it was where fewer are left.
abbrev pub past : (tape : List ℕ) → (at n : ℕ) → ℕ
past tape at n = choose (short (length tape) at n) at (at + n)
