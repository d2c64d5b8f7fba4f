-- The search for a free slice (document 01, "Write"), and the start place (document 02, P2). Assumes nothing.
use Rattle.std.specs.Prelude.{ℕ, suc, List, [], ◌∷◌, Bool, true, false, get_or, drop, ltb, eqb}
use Rattle.model.specs.declared.Search.{Search}
use Rattle.model.specs.declared.Search.TheVariants.{Free, Bad, Full}

-- A place: bad where it names no slice, found where its slice is free, else what the rest says.
abbrev pub seen : (inside free : Bool) → (slice place : ℕ) → Search → Search
seen false free slice place rest = Bad place
seen true true slice place rest = Free slice place
seen true false slice place rest = rest

-- The first of the slices, which stand from a place on, whose owner is 0.
unfoldable pub search : (owners : List ℕ) → (p place : ℕ) → (slices : List ℕ) → Search
search owners p place [] = Full
search owners p place (ψ ∷ slices) = seen (ltb ψ p) (eqb (get_or owners ψ 0) 0) ψ place (search owners p (suc place) slices)

-- The first free place of a permutation from a start on.
unfoldable pub first_free : (owners : List ℕ) → (p start : ℕ) → (perm : List ℕ) → Search
first_free owners p start perm = search owners p start (drop start perm)

-- The start place that an opening sets: the first free place, or P (document 02, P2). A permutation that names each slice has no bad
-- place.
abbrev pub start_place : (p : ℕ) → Search → ℕ
start_place p (Free ψ place) = place
start_place p (Bad place) = p
start_place p Full = p
