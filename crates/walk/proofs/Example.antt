-- The document's example of a walk, line by line. Assumes nothing.
use Prim.Native.Nat.{ℕ, suc, ◌*◌}
use mathlib.Core.Path.{◌≡◌, refl}
use mathlib.Core.Bool.{true, false}
use mathlib.Core.List.{List, [], ◌∷◌}
use lib.ListN.{get_or, set, replicate}
use Rattle.refusals.specs.Numbers.{refuse}
use Rattle.block.specs.Bytes.{number_after, big_endian}
use Rattle.model.specs.declared.Geometry.{Geometry}
use Rattle.model.specs.Parts.{any_below}
use Rattle.model.specs.Geometry.{bad_geometry, any_bad_count, map_blocks, header_blocks, device_length, slice_start, block_start}
use Rattle.model.specs.Session.{held, unmapped, standing, asked, short}
use Rattle.model.specs.Maps.{bad_in_block}
use Rattle.model.specs.Search.{search, first_free}
use Rattle.model.specs.Write.{write_refusal, write_model}
use Rattle.lines.specs.Hexadecimal.{value, digits, decode}
use Rattle.claims.specs.State.{State, empty, all_open, start}
use Rattle.claims.proofs.Claims.{zeros-length}
use Rattle.frames.specs.Frames.{on_size, pairs, on_order, on_claim, on_kind, on_frame}
use Rattle.walk.specs.Lines.{step}
use Rattle.walk.specs.Theorems.{answers, example_lines, example_answers}

-- ---- the states of the example

abbrev size : Geometry
size = record { b = 1024; s = 4; p = 4 }

-- After the first two lines.
abbrev walking : (maps owners : List ℕ) → (counted position place : ℕ) → State
walking maps owners counted position place =
    record { sized = true; shuffled = true; counted = counted; perm = 2 ∷ 0 ∷ 3 ∷ 1 ∷ []; held = held maps owners position (all_open size place) }

-- The map table after no claim, after one and after both.
abbrev unclaimed : List ℕ
unclaimed = replicate 60 unmapped

abbrev claimed-once : List ℕ
claimed-once = set unclaimed 1 2

abbrev claimed_twice : List ℕ
claimed_twice = set claimed-once 7 0

-- The state that each line meets, and that which the last one leaves.
abbrev states : List State
states =
    start
    ∷ record { sized = true; shuffled = false; counted = 0; perm = []; held = empty size }
    ∷ walking unclaimed (0 ∷ 0 ∷ 0 ∷ 0 ∷ []) 0 0 0
    ∷ walking claimed-once (0 ∷ 0 ∷ 1 ∷ 0 ∷ []) 1 1040 1
    ∷ walking claimed_twice (2 ∷ 0 ∷ 1 ∷ 0 ∷ []) 2 2080 2
    ∷ walking claimed_twice (2 ∷ 0 ∷ 1 ∷ 0 ∷ []) 3 2096 2
    ∷ walking claimed_twice (2 ∷ 0 ∷ 1 ∷ 0 ∷ []) 4 2096 2
    ∷ []

-- Line n leads from its state to the next, with its answer.
abbrev Leads : ℕ → Type 0
Leads n = step (get_or states n start) (get_or example_lines n []) ≡ record { state = get_or states (suc n) start; answer = get_or example_answers n [] }

each_leads : Leads 0 × Leads 1 × Leads 2 × Leads 3 × Leads 4 × Leads 5
unfolding refuse number_after big_endian bad_geometry any_below any_bad_count map_blocks header_blocks device_length slice_start block_start
    standing asked short bad_in_block search first_free write_refusal write_model value digits decode on_size pairs on_order on_claim on_kind on_frame step
each_leads =
    let text = zeros-length 1024 in
    let tape = zeros-length (4096 * 4112) in
    (refl, refl, rw (text, tape), rw (text, tape), rw (text, tape), refl)

pub example : answers start example_lines ≡ example_answers
unfolding answers
example = rw (each_leads.0, each_leads.1, each_leads.2, each_leads.3, each_leads.4, each_leads.5)
