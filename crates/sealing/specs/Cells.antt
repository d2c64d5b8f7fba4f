-- What the search for a cell leaves, in the model's terms. Assumes nothing.
use Rattle.std.specs.Prelude.{ℕ, ◌≡◌, Bool, true, false, Option, None, Some, List}
use Rattle.gcm_spec.specs.Gcm.{Opened, Text, WrongTag}
use Rattle.model.specs.Opening.{Cell, At, NoCell}

-- Whether an opening gave a text.
abbrev pub is_text : Opened → Bool
is_text (Text text) = true
is_text WrongTag = false

-- The lowest cell that opens, with its VMK in a buffer.
abbrev pub CellFound : Cell → Option ℕ → (vmk : List ℕ) → Type 0
CellFound (At k key) r vmk = (r ≡ Some k) × (vmk ≡ key)
CellFound NoCell r vmk = r ≡ None
