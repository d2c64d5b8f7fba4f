-- What is proved of the walk's definitions. Assumes nothing.
use Rattle.std.specs.Prelude.{ℕ, ◌^◌, ◌≤◌, ◌<◌, ◌≡◌, true, List, [], ◌∷◌, length}
use Rattle.model.specs.Permutation.{member}
use Rattle.lines.specs.Hexadecimal.{digits}
use Rattle.lines.specs.Answers.{served}
use Rattle.claims.specs.State.{State, start}
use Rattle.walk.specs.Lines.{step, walk, Reader, feed, Reads}

-- ---- the document's example

-- The answers to lines, each by its bytes.
unfoldable pub answers : State → (lines : List (List ℕ)) → List (List ℕ)
answers w [] = []
answers w (line ∷ lines) = (step w line).answer ∷ answers (step w line).state lines

-- The input of the example (document 01, "The walk program"), and the bytes of its output (the second claim's count and the tape
-- positions: document 02, P2 and P7).
abbrev pub example_lines : List (List ℕ)
example_lines =
    digits (0x01 ∷ 0x04 ∷ 0x00 ∷ 0x00 ∷ 0x04 ∷ 0x00 ∷ 0x04 ∷ [])
    ∷ digits (0x02 ∷ 0x00 ∷ 0x02 ∷ 0x00 ∷ 0x00 ∷ 0x00 ∷ 0x03 ∷ 0x00 ∷ 0x01 ∷ [])
    ∷ digits (0x03 ∷ 0x00 ∷ 0x00 ∷ 0x00 ∷ 0x00 ∷ 0x05 ∷ [])
    ∷ digits (0x03 ∷ 0x01 ∷ 0x00 ∷ 0x00 ∷ 0x00 ∷ 0x0d ∷ [])
    ∷ digits (0x03 ∷ 0x00 ∷ 0x00 ∷ 0x00 ∷ 0x00 ∷ 0x06 ∷ [])
    ∷ digits (0x03 ∷ 0x00 ∷ 0x00 ∷ 0x00 ∷ 0x00 ∷ 0x10 ∷ [])
    ∷ []

abbrev pub example_answers : List (List ℕ)
example_answers =
    (0x00 ∷ [])
    ∷ (0x00 ∷ [])
    ∷ (0x00 ∷ 0x00 ∷ 0x02 ∷ 0x00 ∷ 0x00 ∷ 0x00 ∷ 0x2b ∷ 0x00 ∷ 0x01 ∷ 0x00 ∷ 0x00 ∷ 0x04 ∷ 0x10 ∷ [])
    ∷ (0x00 ∷ 0x00 ∷ 0x00 ∷ 0x00 ∷ 0x00 ∷ 0x00 ∷ 0x21 ∷ 0x00 ∷ 0x01 ∷ 0x00 ∷ 0x00 ∷ 0x08 ∷ 0x20 ∷ [])
    ∷ (0x00 ∷ 0x00 ∷ 0x02 ∷ 0x00 ∷ 0x00 ∷ 0x00 ∷ 0x2c ∷ 0x00 ∷ 0x00 ∷ 0x00 ∷ 0x00 ∷ 0x08 ∷ 0x30 ∷ [])
    ∷ (0x0c ∷ [])
    ∷ []

-- ---- every walk

-- A state that some lines lead to.
pub data Reached : State → Type 0 where
  begin : Reached start
  after : (w : State) (line : List ℕ) → Reached w → Reached (step w line).state

-- The answer bytes that the document gives the program.
abbrev pub answer_numbers : List ℕ
answer_numbers = 0 ∷ 1 ∷ 5 ∷ 11 ∷ 12 ∷ 14 ∷ 20 ∷ 22 ∷ []

-- An answer of the program: one of these bytes alone, or a served frame 03 whose numbers fit the bytes that they are given.
pub data Listed : (answer : List ℕ) → Type 0 where
  byte : (n : ℕ) → member n answer_numbers ≡ true → Listed (n ∷ [])
  values : (slice block probes position : ℕ) → slice < 256 ^ 2 → block < 256 ^ 4 → probes < 256 ^ 2 → position < 256 ^ 4
      → Listed (served slice block probes position)

pub record WalkLaws : Type 0 where
  pub example : answers start example_lines ≡ example_answers
  -- No line gets any other answer; in particular the tape never ends (21).
  pub listed : (w : State) (line : List ℕ) → Reached w → Listed (step w line).answer
  -- Of a piece of input at least one byte is taken, and no more than it has.
  pub takes : (r : Reader) (piece : List ℕ) → 0 < length piece → (0 < (feed r piece).taken) × ((feed r piece).taken ≤ length piece)
  -- Every input can be read, so that the next law speaks of every input.
  pub reads : (input : List ℕ) → Reads (record { state = start; line = [] }) input (walk input)
  -- In whatever pieces the input comes, the output is that of its lines.
  pub pieces : (input output : List ℕ) → Reads (record { state = start; line = [] }) input output → output ≡ walk input
