-- Input and output of the walk program: lines, and input that comes in pieces (document 01, "The walk program"). Assumes nothing.
use Rattle.std.specs.Prelude.{ℕ, ◌+◌, ◌<◌, List, [], ◌∷◌, ◌++◌, ltb, eqb, length, take, drop}
use Rattle.model.specs.Parts.{choose}
use Rattle.lines.specs.Hexadecimal.{digits, decode}
use Rattle.claims.specs.State.{State, start}
use Rattle.claims.specs.Claims.{Stepped}
use Rattle.frames.specs.Frames.{on_frame}

-- ---- one line

-- A line, by the frame that it spells.
unfoldable pub step : State → (line : List ℕ) → Stepped
step w line = on_frame w (decode line)

-- The output line: the digits of the answer, and byte 0a.
abbrev pub output_line : Stepped → List ℕ
output_line s = digits s.answer ++ (10 ∷ [])

-- ---- the whole input

-- The last line, which may lack its byte 0a; where nothing stands behind the last 0a, there is none.
abbrev pub last_line : List ℕ → List (List ℕ)
last_line [] = []
last_line (c ∷ line) = (c ∷ line) ∷ []

-- The lines of an input, whose first one has begun already.
unfoldable pub lines_from : (line input : List ℕ) → List (List ℕ)
lines_from line [] = last_line line
lines_from line (c ∷ input) = choose (eqb c 10) (line ∷ lines_from [] input) (lines_from (line ++ (c ∷ [])) input)

-- One output line for each line.
unfoldable pub outputs : State → (lines : List (List ℕ)) → List ℕ
outputs w [] = []
outputs w (line ∷ lines) = output_line (step w line) ++ outputs (step w line).state lines

-- What the program writes for an input.
abbrev pub walk : (input : List ℕ) → List ℕ
walk input = outputs start (lines_from [] input)

-- ---- input in pieces

-- The bytes of an input before its first 0a.
unfoldable pub line_length : List ℕ → ℕ
line_length [] = 0
line_length (c ∷ input) = choose (eqb c 10) 0 (line_length input + 1)

-- The state, and what is kept of the unfinished line.
pub record Reader : Type 0 where
  pub state : State
  pub line : List ℕ

-- 1,027 bytes of a line are kept: one digit more than the longest frame has.
abbrev pub kept : (line more : List ℕ) → List ℕ
kept line more = take 1027 (line ++ more)

-- What a piece of input leads to: how much of it is taken, up to the end of its first line or its own end, and the output.
pub record Fed : Type 0 where
  pub reader : Reader
  pub taken : ℕ
  pub output : List ℕ

-- The line ends in the piece, and is answered.
abbrev pub ended : Reader → (line : List ℕ) → (taken : ℕ) → Fed
ended r line taken =
    let s = step r.state line in
    record { reader = record { state = s.state; line = [] }; taken = taken; output = output_line s }

-- The line goes on behind the piece.
abbrev pub goes_on : Reader → (line : List ℕ) → (taken : ℕ) → Fed
goes_on r line taken = record { reader = record { state = r.state; line = line }; taken = taken; output = [] }

-- A piece of input, up to the end of its first line.
unfoldable pub feed : Reader → (piece : List ℕ) → Fed
feed r piece =
    choose (ltb (line_length piece) (length piece)) (ended r (kept r.line (take (line_length piece) piece)) (line_length piece + 1))
    (goes_on r (kept r.line piece) (length piece))

-- The output at the end of the input.
unfoldable pub finish : Reader → List ℕ
finish r = outputs r.state (last_line r.line)

-- An input is read: some of what is left of it is lent, as many bytes as one likes but at least one, and what was taken is
-- gone; at its end the last line is finished.
pub data Reads : Reader → (input output : List ℕ) → Type 0 where
  ends : (r : Reader) → Reads r [] (finish r)
  piece : (r : Reader) (p rest output : List ℕ) → 0 < length p → Reads (feed r p).reader (drop (feed r p).taken (p ++ rest)) output
      → Reads r (p ++ rest) ((feed r p).output ++ output)
