-- What the code's values say of a reader: its array as an unfinished line, and what a piece of input leaves. Assumes nothing.
use Rattle.std.specs.Prelude.{ℕ, ◌≡◌, List, take}
use Rattle.lines.specs.Answers.{Writes}
use Rattle.claims.specs.Answers.{state_of}
use Rattle.walk.specs.declared.LineReader.{LineReader}
use Rattle.walk.specs.Lines.{Reader, Fed}

-- The reader, with the unfinished line at the start of an array.
abbrev pub reader_of : LineReader → Reader
reader_of r = record { state = state_of r.walk; line = take r.used r.line }

-- What a piece of input has to leave.
pub record Feeds (f : Fed) (reader : Reader) (taken : ℕ) (before after : List ℕ) (n : ℕ) : Type 0 where
  pub left : reader ≡ f.reader
  pub took : taken ≡ f.taken
  pub wrote : Writes f.output before after n
