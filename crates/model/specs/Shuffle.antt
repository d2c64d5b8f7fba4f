-- Shuffle (document 02, P6): a permutation made from the tape. Assumes nothing.
use Rattle.std.specs.Prelude.{ℕ, zero, suc, ◌+◌, ◌-◌, ◌*◌, ◌/◌, ◌%◌, List, [], ◌∷◌, not, length, get_or, set, drop, ltb, eqb}
use Rattle.refusals.specs.Numbers.{refuse}
use Rattle.model.specs.declared.Geometry.{Geometry}
use Rattle.model.specs.Parts.{choose, joined}
use Rattle.model.specs.Geometry.{bad_geometry}
use Rattle.model.specs.Session.{LentResult, Served, Refused, unless}

-- ---- the ordering of a run of accepted draws

-- 0, 1, .. n - 1.
unfoldable pub in_order : (n : ℕ) → List ℕ
in_order n = joined n (λ i. i ∷ [])

-- A list with places i and j exchanged.
unfoldable pub exchanged : (i j : ℕ) → List ℕ → List ℕ
exchanged i j xs = set (set xs i (get_or xs j 0)) j (get_or xs i 0)

-- The list after place i and each below it, down to place 1, is exchanged with a place from 0 to itself: place i has i + 1 choices, and
-- the remainder of its draw by that number is the place.
unfoldable pub ordered : (i : ℕ) → (accepted xs : List ℕ) → List ℕ
ordered zero ds xs = xs
ordered (suc i) [] xs = xs
ordered (suc i) (d ∷ ds) xs = ordered i ds (exchanged (suc i) (d % suc (suc i)) xs)

-- The ordering of P slices, from the last place down.
abbrev pub ordering : (p : ℕ) → (accepted : List ℕ) → List ℕ
ordering p ds = ordered (p - 1) ds (in_order p)

-- ---- the draws on a tape

-- A draw is two bytes, most significant first; one odd byte left over is no draw.
unfoldable pub draws : (tape : List ℕ) → List ℕ
draws [] = []
draws (a ∷ []) = []
draws (a ∷ b ∷ tape) = (256 * a + b) ∷ draws tape

-- The largest multiple of n not above 65,536: with n choices a draw is thrown away where it is at or above that.
abbrev pub limit : (n : ℕ) → ℕ
limit n = 65536 / n * n

-- What draws come to for the places from i down to 1: an accepted one for each place, and the number of all that were drawn for them;
-- or the draws end first.
pub data Run : Type 0 where
  Accepted : (accepted : List ℕ) → (drawn : ℕ) → Run
  Ended : Run

-- One more that was accepted, or thrown away.
abbrev pub accept : ℕ → Run → Run
accept d (Accepted ds n) = Accepted (d ∷ ds) (suc n)
accept d Ended = Ended

abbrev pub throw : Run → Run
throw (Accepted ds n) = Accepted ds (suc n)
throw Ended = Ended

unfoldable pub run : (i : ℕ) → (draws : List ℕ) → Run
run zero ds = Accepted [] 0
run (suc i) [] = Ended
run (suc i) (d ∷ ds) = choose (ltb d (limit (suc (suc i)))) (accept d (run i ds)) (throw (run (suc i) ds))

-- ---- the call

-- 1, 4 (the lent list is not P long), 21 (the position is past the end of the tape), from the lengths of list and tape.
unfoldable pub shuffle_refusal : Geometry → (list tape position : ℕ) → ℕ
shuffle_refusal g list tape position =
    bad_geometry 1 g
    (refuse (not (eqb list g.p)) 4
    (refuse (ltb tape position) 21
    0))

-- What a run for the places from i down to 1 makes of a list, and of a position, which two bytes for each draw move; 21 where the tape
-- ends first.
abbrev pub shuffled : (i : ℕ) → (xs : List ℕ) → (position : ℕ) → Run → LentResult
shuffled i xs position (Accepted ds n) = Served (ordered i ds xs) (position + 2 * n)
shuffled i xs position Ended = Refused 21

-- Shuffle of a lent list of so many places.
unfoldable pub shuffle_model : Geometry → (list : ℕ) → (tape : List ℕ) → (position : ℕ) → LentResult
shuffle_model g list tape position =
    unless (shuffle_refusal g list (length tape) position) Refused
    (shuffled (g.p - 1) (in_order g.p) position (run (g.p - 1) (draws (drop position tape))))
