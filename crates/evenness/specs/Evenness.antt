-- Evenness (document 02, P6): each ordering arises from equally many runs of accepted draws. Assumes nothing.
use Rattle.std.specs.Prelude.{ℕ, zero, suc, ◌+◌, ◌-◌, ◌*◌, ◌/◌, ◌<◌, ◌≡◌, List, [], ◌∷◌}
use Rattle.model.specs.Permutation.{place_of}
use Rattle.model.specs.Conditions.{slice_at, Names}
use Rattle.model.specs.Shuffle.{in_order, exchanged, ordering}
use Rattle.evenness.specs.Runs.{OneEach, AcceptedRun}

-- ---- a run as an ordering and quotients

-- With n choices a quotient is below 65,536 / n rounded down.
abbrev pub Quotient : (n q : ℕ) → Type 0
Quotient n q = q < 65536 / n

-- A quotient for each place of P, from the last down to 1.
abbrev pub Quotients : (p : ℕ) → (quotients : List ℕ) → Type 0
Quotients p qs = OneEach Quotient (p - 1) qs

-- The quotients of a run's draws by the numbers of choices, for the places from i down to 1.
unfoldable pub quotients_of : (i : ℕ) → (draws : List ℕ) → List ℕ
quotients_of zero ds = []
quotients_of (suc i) [] = []
quotients_of (suc i) (d ∷ ds) = d / suc (suc i) ∷ quotients_of i ds

-- The draws with these quotients that make perm of xs by exchanges from place i down to 1: each has as its remainder the place where
-- the list as it then stands has the slice that perm has at place i.
unfoldable pub draws_of : (i : ℕ) → (xs perm quotients : List ℕ) → List ℕ
draws_of zero xs perm qs = []
draws_of (suc i) xs perm [] = []
draws_of (suc i) xs perm (q ∷ qs) =
    let j = place_of (slice_at perm (suc i)) xs in
    (q * suc (suc i) + j) ∷ draws_of i (exchanged (suc i) j xs) perm qs

-- ---- how many

-- The product of 65,536 / n, rounded down, over the numbers n of choices at the places from i down to 1, which are i + 1 down to 2.
unfoldable pub run_count : (i : ℕ) → ℕ
run_count zero = 1
run_count (suc i) = 65536 / suc (suc i) * run_count i

-- Exactly n lists have a property: numbered from 0 to n - 1, each has it, each that has it is among them, and none is there twice.
pub record Exactly (n : ℕ) (Has : List ℕ → Type 0) : Type 0 where
  pub nth : ℕ → List ℕ
  pub has : (m : ℕ) → m < n → Has (nth m)
  pub every : (xs : List ℕ) → Has xs → (m : ℕ) × (m < n) × (nth m ≡ xs)
  pub once : (m k : ℕ) → m < n → k < n → nth m ≡ nth k → m ≡ k

-- The runs of accepted draws for P places correspond one to one with the pairs of an ordering and a list of quotients.
pub record Evenness (p : ℕ) : Type 0 where
  -- A run gives an ordering and quotients,
  pub ordering_names : (ds : List ℕ) → AcceptedRun p ds → Names p (ordering p ds)
  pub quotients_suit : (ds : List ℕ) → AcceptedRun p ds → Quotients p (quotients_of (p - 1) ds)
  -- an ordering and quotients give a run,
  pub draws_accepted : (perm qs : List ℕ) → Names p perm → Quotients p qs → AcceptedRun p (draws_of (p - 1) (in_order p) perm qs)
  -- and each way back gives what one came from.
  pub from_run : (ds : List ℕ) → AcceptedRun p ds → draws_of (p - 1) (in_order p) (ordering p ds) (quotients_of (p - 1) ds) ≡ ds
  pub from_ordering : (perm qs : List ℕ) → Names p perm → Quotients p qs → ordering p (draws_of (p - 1) (in_order p) perm qs) ≡ perm
  pub from_quotients : (perm qs : List ℕ) → Names p perm → Quotients p qs → quotients_of (p - 1) (draws_of (p - 1) (in_order p) perm qs) ≡ qs
  -- So each ordering arises from equally many runs: the product of the numbers of quotients.
  pub equally : (perm : List ℕ) → Names p perm → Exactly (run_count (p - 1)) (λ ds. AcceptedRun p ds × (ordering p ds ≡ perm))
