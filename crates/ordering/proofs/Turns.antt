-- Laws of a run from a place and a position on: of one more draw, of none, and of the last place. Assumes nothing.
use Prim.Native.Nat.{ℕ, zero, suc, ◌+◌, ◌-◌, ◌*◌, ◌%◌, ◌≤◌, ◌<◌}
use mathlib.Core.Path.{◌≡◌, refl, ap}
use mathlib.Core.Bool.{Bool, true, false}
use mathlib.Core.List.{List, [], ◌∷◌}
use native.Mathlib.Numerals.{add-one}
use native.Mathlib.Omega.{arith}
use lib.ListN.{length, get_or, drop, length-drop}
use lib.Seq.{drop-cons}
use lib.Dec.{ltb}
use Rattle.model.specs.Parts.{choose}
use Rattle.model.specs.Session.{LentResult, Served, Refused}
use Rattle.model.specs.Shuffle.{in_order, exchanged, ordered, draws, limit, Run, Accepted, Ended, accept, throw, run, shuffled}

-- What is left of a tape from a position on, as draws: one and the rest, or none.
module _ (tape : List ℕ) (at : ℕ) where
  draws_next : at + 2 ≤ length tape
      → draws (drop at tape) ≡ (256 * get_or tape at 0 + get_or tape (at + 1) 0) ∷ draws (drop (at + 2) tape)
  unfolding draws
  draws_next h =
      let next : at + 2 ≡ suc (suc at) = omega arith in
      rw (next, add-one at, drop-cons tape at 0 (omega arith), drop-cons tape (suc at) 0 (omega arith)) refl

  draws_end : length tape - at < 2 → draws (drop at tape) ≡ []
  unfolding draws
  draws_end h = few (drop at tape) (omega (arith, length-drop at tape))
    where
      few : (rest : List ℕ) → length rest < 2 → draws rest ≡ []
      few [] l = refl
      few (a ∷ []) l = refl
      few (a ∷ b ∷ rest) l = absurd (omega arith)

-- What the run from a place and a position on comes to.
abbrev pub onward : (place : ℕ) → (list tape : List ℕ) → (at : ℕ) → LentResult
onward place list tape at = shuffled place list at (run place (draws (drop at tape)))

shuffled-accept : (i : ℕ) (list : List ℕ) (at d : ℕ) (r : Run)
    → shuffled (suc i) list at (accept d r) ≡ shuffled i (exchanged (suc i) (d % suc (suc i)) list) (at + 2) r
unfolding ordered
shuffled-accept i list at d (Accepted ds n) =
    let e : at + 2 * suc n ≡ at + 2 + 2 * n = omega arith in ap (Served (ordered (suc i) (d ∷ ds) list)) e
shuffled-accept i list at d Ended = refl

shuffled-throw : (i : ℕ) (list : List ℕ) (at : ℕ) (r : Run) → shuffled i list at (throw r) ≡ shuffled i list (at + 2) r
shuffled-throw i list at (Accepted ds n) = let e : at + 2 * suc n ≡ at + 2 + 2 * n = omega arith in ap (Served (ordered i ds list)) e
shuffled-throw i list at Ended = refl

shuffled_draw : (i : ℕ) (list : List ℕ) (at d : ℕ) (ds : List ℕ) (b : Bool) → ltb d (limit (suc (suc i))) ≡ b
    → shuffled (suc i) list at (run (suc i) (d ∷ ds))
    ≡ shuffled (choose b i (suc i)) (choose b (exchanged (suc i) (d % suc (suc i)) list) list) (at + 2) (run (choose b i (suc i)) ds)
unfolding run
shuffled_draw i list at d ds true e = rw e (shuffled-accept i list at d (run i ds))
shuffled_draw i list at d ds false e = rw e (shuffled-throw (suc i) list at (run (suc i) ds))

-- A draw, accepted or thrown away.
pub onward_turn : (place : ℕ) (list tape : List ℕ) (at : ℕ) → 0 < place → at + 2 ≤ length tape
    → (d : ℕ) → d ≡ 256 * get_or tape at 0 + get_or tape (at + 1) 0
    → let b = ltb d (limit (place + 1)) in
    onward place list tape at ≡ onward (choose b (place - 1) place) (choose b (exchanged place (d % (place + 1)) list) list) tape (at + 2)
onward_turn zero list tape at l h d e = absurd (omega arith)
onward_turn (suc i) list tape at l h d e =
    let below : suc i - 1 ≡ i = omega arith in
    rw (below, add-one (suc i), draws_next tape at h, ← e)
    (shuffled_draw i list at d (draws (drop (at + 2) tape)) (ltb d (limit (suc (suc i)))) refl)

-- Neither leads to a place above.
pub turn_le : (b : Bool) (place : ℕ) → choose b (place - 1) place ≤ place
turn_le true place = omega arith
turn_le false place = omega arith

-- The tape ends first.
pub onward_ended : (place : ℕ) (list tape : List ℕ) (at : ℕ) → 0 < place → length tape - at < 2 → onward place list tape at ≡ Refused 21
unfolding run
onward_ended zero list tape at l h = absurd (omega arith)
onward_ended (suc i) list tape at l h = rw (draws_end tape at h) refl

-- No place is left.
pub onward_done : (list tape : List ℕ) (at : ℕ) → onward 0 list tape at ≡ Served list at
unfolding run ordered
onward_done list tape at = ap (Served list) (omega arith)

-- The run for a list in order is the whole of a shuffle.
pub onward_whole : (p : ℕ) {list : List ℕ} (tape : List ℕ) (position : ℕ) → list ≡ in_order p → length list ≡ p
    → onward (length list - 1) list tape position ≡ onward (p - 1) (in_order p) tape position
onward_whole p {list} tape position e long = rw (long, e) refl
