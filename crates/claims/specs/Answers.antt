-- What the code's values say of a walk: the walk as a state, and what a frame leaves and answers. Assumes nothing.
use Rattle.std.specs.Prelude.{ℕ, ◌+◌, ◌*◌, ◌/◌, ◌≡◌, Bool, true, List, [], take}
use Rattle.model.specs.Parts.{choose}
use Rattle.model.specs.declared.Geometry.{Geometry}
use Rattle.model.specs.Geometry.{device_length, block_start}
use Rattle.model.specs.Session.{held, geometry}
use Rattle.deciding.specs.declared.Decision.{Decision}
use Rattle.deciding.specs.Decided.{Decided}
use Rattle.lines.specs.declared.WalkReply.{WalkReply}
use Rattle.lines.specs.declared.WalkReply.TheVariants.{Served}
use Rattle.claims.specs.declared.Walk.{Walk}
use Rattle.claims.specs.State.{State, all_open, zeros, endless}
use Rattle.claims.specs.Claims.{Stepped}

-- The state that a walk stands for: the tables are the first entries of their arrays, and there is a permutation once a frame 02
-- is accepted. The rest of the arrays is not part of the state.
abbrev pub state_of : Walk → State
state_of w =
    record {
      sized = w.sized;
      shuffled = w.shuffled;
      counted = w.counted;
      perm = choose w.shuffled (take w.geometry.p w.perm) [];
      held = held (take (15 * w.geometry.p) w.maps) (take w.geometry.p w.owners) w.position (all_open w.geometry w.start);
    }

-- A walk with lent tables, after a frame 02.
abbrev pub walk_of : Geometry → (sized : Bool) → (counted position start : ℕ) → (maps owners perm : List ℕ) → Walk
walk_of g sized counted position start maps owners perm =
    record {
      geometry = g;
      sized = sized;
      shuffled = true;
      counted = counted;
      position = position;
      start = start;
      maps = maps;
      owners = owners;
      perm = perm;
    }

-- What the engine decides of a write of zeros in a state (`engine_write`).
abbrev pub Decides : State → (i a : ℕ) → Decision → Type 0
Decides w i a d = Decided (device_length (geometry w.held)) w.held i a (zeros (geometry w.held).b) w.perm endless d

-- What a frame has to leave and to answer.
pub record Answers (s : Stepped) (state : State) (answer : List ℕ) : Type 0 where
  pub left : state ≡ s.state
  pub answered : answer ≡ s.answer

-- A walk with another tape position and start place.
abbrev pub moved : Walk → (position start : ℕ) → Walk
moved w position start = record w { position = position; start = start }

-- A served frame 03 at block offset j: the position moves on by what was drawn, the start place by what was looked at (document 02,
-- P2), and the values are answered.
pub record Serves (w : Walk) (slice j probes drawn : ℕ) (w' : Walk) (answer : WalkReply) : Type 0 where
  pub left : w' ≡ moved w (w.position + drawn) (w.start + probes)
  pub answered : answer ≡ Served slice (block_start w.geometry slice j / w.geometry.b) probes (w.position + drawn)
