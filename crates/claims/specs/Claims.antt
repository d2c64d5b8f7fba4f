-- A claim or a rewrite of a walk: what it leaves, and its answer (document 01, "The walk program"). Assumes nothing.
use Rattle.std.specs.Prelude.{ℕ, ◌/◌, List, [], ◌∷◌}
use Rattle.model.specs.declared.Geometry.{Geometry}
use Rattle.model.specs.Geometry.{block_start}
use Rattle.model.specs.Session.{geometry, offset_of}
use Rattle.model.specs.Answers.{change_slice}
use Rattle.model.specs.Write.{WriteResult}
use Rattle.lines.specs.Answers.{served}
use Rattle.claims.specs.State.{State, engine_write}

-- What a line leaves, and the bytes of its answer.
pub record Stepped : Type 0 where
  pub state : State
  pub answer : List ℕ

-- A line that is refused by a number, and leaves a state.
abbrev pub refused_by : State → ℕ → Stepped
refused_by w n = record { state = w; answer = n ∷ [] }

-- The answer of the engine's write at block offset j, printed: the refusal alone, or the served values.
abbrev pub printed : Geometry → (j position : ℕ) → WriteResult → List ℕ
printed g j position (WriteResult.Refused n probes) = n ∷ []
printed g j position (WriteResult.Served change probes) = served (change_slice change) (block_start g (change_slice change) j / g.b) probes position

-- What the engine's write leaves held, and its answer.
abbrev pub written : State → (i a : ℕ) → Stepped
written w i a =
    let o = engine_write w i a in
    record {
      state = record w { held = o.held };
      answer = printed (geometry w.held) (offset_of (geometry w.held) a) o.held.position o.answer;
    }
