-- The bytes of an answer, and what the code's values say of a line (document 01, "The walk program"). Assumes nothing.
use Rattle.std.specs.Prelude.{ℕ, ◌≤◌, ◌≡◌, List, [], ◌∷◌, ◌++◌, length, take, Option, Some, None, Result, Ok, Err}
use Rattle.refusals.specs.declared.Refusal.{Refusal}
use Rattle.refusals.specs.Numbers.{refusal_number}
use Rattle.block.specs.Bytes.{big_endian}
use Rattle.model.specs.Parts.{overlay}
use Rattle.lines.specs.declared.WalkReply.{WalkReply}
use Rattle.lines.specs.declared.WalkReply.TheVariants.{Accepted, Served}
use Rattle.lines.specs.Hexadecimal.{Spelt, Bytes, Neither}

-- A served frame 03: 00, slice (two bytes), device block (four), places looked at (two), tape position after (four).
abbrev pub served : (slice block probes position : ℕ) → List ℕ
served slice block probes position = 0 ∷ (big_endian 2 slice ++ (big_endian 4 block ++ (big_endian 2 probes ++ big_endian 4 position)))

-- The bytes of an answer: 00, the refusal's number, or 00 with the values of a served frame 03.
abbrev pub answer_bytes : Result WalkReply Refusal → List ℕ
answer_bytes (Ok Accepted) = 0 ∷ []
answer_bytes (Ok (Served slice block probes position)) = served slice block probes position
answer_bytes (Err r) = refusal_number r ∷ []

-- What a line spells, with its bytes at the start of a buffer.
abbrev pub spelt_in : Option ℕ → (buffer : List ℕ) → Spelt
spelt_in (Some n) buffer = Bytes (take n buffer)
spelt_in None buffer = Neither

-- How many bytes those are.
abbrev pub count_in : Option ℕ → ℕ
count_in (Some n) = n
count_in None = 0

-- An output of so many bytes at the start of a buffer, which has room for it.
pub record Writes (output before after : List ℕ) (n : ℕ) : Type 0 where
  pub put : after ≡ overlay before 0 output
  pub long : n ≡ length output
  pub fits : n ≤ length after
