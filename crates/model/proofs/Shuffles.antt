-- Laws of a shuffle: two places exchanged, the ordering that draws make, and the draws that a tape holds. Assumes nothing.
use Prim.Native.Nat.{ℕ, zero, suc, ◌+◌, ◌-◌, ◌*◌, ◌/◌, ◌%◌, ◌≤◌, ◌<◌}
use mathlib.Core.Path.{◌≡◌, refl, sym, ap, subst, ◌∙◌}
use mathlib.Core.Bool.{Bool, true, false}
use mathlib.Core.List.{List, [], ◌∷◌, ◌++◌}
use mathlib.Core.Logic.{◌⊎◌, inl, inr, ⊎_elim}
use native.Mathlib.Omega.{arith}
use native.Mathlib.Nat.{mod-lt, mul-le-mul_right, div-mul-le_self, le-div_iff_mul-le}
use lib.ListN.{length, get_or, set, take, length-set, length-append, get_or-append}
use lib.Seq.{get_or-set_same, get_or-set_other, get_or-append_seam}
use lib.Dec.{ltb}
use borrow.Author.Tests.{ltb-true, ltb-false, lt-ltb, le-ltb}
use Rattle.model.specs.Parts.{choose, joined}
use Rattle.model.specs.Shuffle.{in_order, exchanged, ordered, ordering, draws, limit, Run, Accepted, Ended, accept, throw, run}
use Rattle.model.specs.Conditions.{slice_at, Names, Exchanged, Exchanges, Shuffles, Accepts, Drawing}
use Rattle.model.proofs.Tests.{below, equal}

-- ---- the slices in order

pub in_order-length : (n : ℕ) → length (in_order n) ≡ n
unfolding in_order joined
in_order-length zero = refl
in_order-length (suc n) = omega (arith, length-append (in_order n) (n ∷ []), in_order-length n)

pub in_order_at : (n k : ℕ) → k < n → slice_at (in_order n) k ≡ k
unfolding in_order joined
in_order_at zero k l = absurd (omega (arith, l))
in_order_at (suc n) k l = ⊎_elim (λ h. earlier h ∙ in_order_at n k h) last (below k n)
  where
    earlier : k < n → slice_at (in_order (suc n)) k ≡ slice_at (in_order n) k
    earlier h = get_or-append (in_order n) (n ∷ []) 0 k (omega (arith, h, in_order-length n))

    last : n ≤ k → slice_at (in_order (suc n)) k ≡ k
    last h =
        let e : k ≡ length (in_order n) = omega (arith, h, l, in_order-length n) in
        ap (slice_at (in_order (suc n))) e ∙ get_or-append_seam (in_order n) n [] 0 ∙ omega (arith, h, l)

pub in_order_names : (p : ℕ) → Names p (in_order p)
in_order_names p =
    record { places = in_order-length p; each = λ ψ l. (ψ, omega (arith, l, in_order-length p), in_order_at p ψ l) }

-- ---- two places exchanged

module _ (i j : ℕ) (xs : List ℕ) where
  pub exchanged_length : length (exchanged i j xs) ≡ length xs
  unfolding exchanged
  exchanged_length = length-set (set xs i _) j _ ∙ length-set xs i _

  exchanged_rest : (n : ℕ) → (n ≡ i → ⊥) → (n ≡ j → ⊥) → slice_at (exchanged i j xs) n ≡ slice_at xs n
  unfolding exchanged
  exchanged_rest n ni nj = get_or-set_other (set xs i _) j n _ 0 nj ∙ get_or-set_other xs i n _ 0 ni

  exchanged_other : j < length xs → slice_at (exchanged i j xs) j ≡ slice_at xs i
  unfolding exchanged
  exchanged_other l = get_or-set_same (set xs i (get_or xs j 0)) j (get_or xs i 0) 0 (omega (arith, l, length-set xs i (get_or xs j 0)))

  exchanged_one : i < length xs → j < length xs → slice_at (exchanged i j xs) i ≡ slice_at xs j
  unfolding exchanged
  exchanged_one li lj = ⊎_elim same apart (equal i j)
    where
      same : i ≡ j → slice_at (exchanged i j xs) i ≡ slice_at xs j
      same e = ap (slice_at (exchanged i j xs)) e ∙ exchanged_other lj ∙ ap (slice_at xs) e

      apart : (i ≡ j → ⊥) → slice_at (exchanged i j xs) i ≡ slice_at xs j
      apart ne = get_or-set_other (set xs i (get_or xs j 0)) j i (get_or xs i 0) 0 ne ∙ get_or-set_same xs i (get_or xs j 0) 0 li

  pub exchanged_is : i < length xs → j < length xs → Exchanged i j xs (exchanged i j xs)
  exchanged_is li lj =
      record { places = exchanged_length; one = exchanged_one li lj; other = exchanged_other lj; rest = exchanged_rest }

  -- Each slice is still named.
  pub exchanged_names : (p : ℕ) → i < p → j < p → Names p xs → Names p (exchanged i j xs)
  exchanged_names p hi hj names =
      record { places = exchanged_length ∙ names.places; each = λ ψ l. let e = names.each ψ l in named ψ e.0 e.1 e.2 }
    where
      ys : List ℕ
      ys = exchanged i j xs

      is : Exchanged i j xs (exchanged i j xs)
      is = exchanged_is (omega (arith, hi, names.places)) (omega (arith, hj, names.places))

      named : (ψ n : ℕ) → n < length xs → slice_at xs n ≡ ψ
          → (m : ℕ) × (m < length (exchanged i j xs)) × (slice_at (exchanged i j xs) m ≡ ψ)
      named ψ n l e = ⊎_elim at_i (λ ni. ⊎_elim at_j (elsewhere ni) (equal n j)) (equal n i)
        where
          at_i : n ≡ i → (m : ℕ) × (m < length (exchanged i j xs)) × (slice_at (exchanged i j xs) m ≡ ψ)
          at_i q = (j, omega (arith, hj, exchanged_length, names.places), is.other ∙ ap (slice_at xs) (sym q) ∙ e)

          at_j : n ≡ j → (m : ℕ) × (m < length (exchanged i j xs)) × (slice_at (exchanged i j xs) m ≡ ψ)
          at_j q = (i, omega (arith, hi, exchanged_length, names.places), is.one ∙ ap (slice_at xs) (sym q) ∙ e)

          elsewhere : (n ≡ i → ⊥) → (n ≡ j → ⊥) → (m : ℕ) × (m < length (exchanged i j xs)) × (slice_at (exchanged i j xs) m ≡ ψ)
          elsewhere ni nj = (n, omega (arith, l, exchanged_length), is.rest n ni nj ∙ e)

-- ---- the ordering of draws

-- The place that a draw gives to place i + 1.
pub place_lt : (i d : ℕ) → d % suc (suc i) < suc (suc i)
place_lt i d = mod-lt d (omega arith)

-- A draw for each place is exchanges by the words of the request.
pub ordered_exchanges : (i : ℕ) (ds xs : List ℕ) → length ds ≡ i → i < length xs ⊎ (i ≡ 0) → Exchanges i ds xs (ordered i ds xs)
unfolding ordered
ordered_exchanges zero [] xs e l = Exchanges.done xs
ordered_exchanges zero (d ∷ ds) xs e l = absurd (omega (arith, e))
ordered_exchanges (suc i) [] xs e l = absurd (omega (arith, e))
ordered_exchanges (suc i) (d ∷ ds) xs e (inr z) = absurd (omega (arith, z))
ordered_exchanges (suc i) (d ∷ ds) xs e (inl l) =
    let lt = place_lt i d in
    Exchanges.next i d ds xs (exchanged (suc i) (d % suc (suc i)) xs) (ordered i ds (exchanged (suc i) (d % suc (suc i)) xs))
    (exchanged_is (suc i) (d % suc (suc i)) xs l (omega (arith, l, lt)))
    (ordered_exchanges i ds (exchanged (suc i) (d % suc (suc i)) xs) (omega (arith, e))
    (inl (omega (arith, l, exchanged_length (suc i) (d % suc (suc i)) xs))))

-- Any draws leave each slice named.
pub ordered_names : (i : ℕ) (ds xs : List ℕ) (p : ℕ) → i < p ⊎ (i ≡ 0) → Names p xs → Names p (ordered i ds xs)
unfolding ordered
ordered_names zero ds xs p l names = names
ordered_names (suc i) [] xs p l names = names
ordered_names (suc i) (d ∷ ds) xs p (inr z) names = absurd (omega (arith, z))
ordered_names (suc i) (d ∷ ds) xs p (inl l) names =
    let lt = place_lt i d in
    ordered_names i ds (exchanged (suc i) (d % suc (suc i)) xs) p (inl (omega (arith, l)))
    (exchanged_names (suc i) (d % suc (suc i)) xs p l (omega (arith, l, lt)) names)

-- The last place is one of P, or there is none.
pub last_place : (p : ℕ) → p - 1 < p ⊎ (p - 1 ≡ 0)
last_place zero = inr (omega arith)
last_place (suc p) = inl (omega arith)

pub ordering_names : (p : ℕ) (ds : List ℕ) → Names p (ordering p ds)
ordering_names p ds = ordered_names (p - 1) ds (in_order p) p (last_place p) (in_order_names p)

pub ordering_shuffles : (p : ℕ) (ds : List ℕ) → length ds ≡ p - 1 → Shuffles p ds (ordering p ds)
ordering_shuffles p ds e =
    record {
      start = in_order p;
      places = in_order-length p;
      each = in_order_at p;
      exchanges =
          ordered_exchanges (p - 1) ds (in_order p) e
          (⊎_elim (λ l. inl (omega (arith, l, in_order-length p))) inr (last_place p));
    }

-- ---- draws that are accepted

-- Below the limit is below a multiple not above 65,536.
pub limit_accepts : (n d : ℕ) → d < limit n → Accepts n d
limit_accepts n d l = (65536 / n, l, div-mul-le_self 65536 n)

pub accepts_limit : (i d : ℕ) → Accepts (suc i) d → d < limit (suc i)
accepts_limit i d a =
    let most : a.0 ≤ 65536 / suc i = (le-div_iff_mul-le {k = suc i} (omega arith)).1 a.2 in
    omega (arith, a.1, mul-le-mul_right (suc i) most)

-- ---- the draws on a tape

-- What a run comes to is draws by the words of the request.
pub data Found (i : ℕ) (tape : List ℕ) : Run → Type 0 where
  found : (ds : List ℕ) (n : ℕ) → 2 * n ≤ length tape → length ds ≡ i → Drawing i (take (2 * n) tape) ds → Found i tape (Accepted ds n)
  ended : Found i tape Ended

module _ (i a b : ℕ) (tape : List ℕ) where
  abbrev d : ℕ
  d = 256 * a + b

  found_accept : {r : Run} → Accepts (suc (suc i)) (256 * a + b) → Found i tape r → Found (suc i) (a ∷ b ∷ tape) (accept (256 * a + b) r)
  found_accept ok ended = ended
  found_accept ok (found ds n l e q) =
      found ((256 * a + b) ∷ ds) (suc n) (omega (arith, l)) (ap suc e)
      (subst (λ (m : ℕ). Drawing (suc i) (take m (a ∷ b ∷ tape)) ((256 * a + b) ∷ ds)) {x = suc (suc (2 * n))} {y = 2 * suc n} (omega arith)
      (Drawing.taken i a b (take (2 * n) tape) ds ok q))

  found_throw : {r : Run} → (Accepts (suc (suc i)) (256 * a + b) → ⊥) → Found (suc i) tape r → Found (suc i) (a ∷ b ∷ tape) (throw r)
  found_throw out ended = ended
  found_throw out (found ds n l e q) =
      found ds (suc n) (omega (arith, l)) e
      (subst (λ (m : ℕ). Drawing (suc i) (take m (a ∷ b ∷ tape)) ds) {x = suc (suc (2 * n))} {y = 2 * suc n} (omega arith)
      (Drawing.thrown i a b (take (2 * n) tape) ds out q))

pub run-found : (i : ℕ) (tape : List ℕ) → Found i tape (run i (draws tape))
unfolding run draws
run-found zero tape = found [] 0 (omega arith) refl Drawing.done
run-found (suc i) [] = ended
run-found (suc i) (a ∷ []) = ended
run-found (suc i) (a ∷ b ∷ tape) = go (run-found i tape) (run-found (suc i) tape) (ltb (256 * a + b) (limit (suc (suc i)))) refl
  where
    go : Found i tape (run i (draws tape)) → Found (suc i) tape (run (suc i) (draws tape)) → (x : Bool)
        → ltb (256 * a + b) (limit (suc (suc i))) ≡ x
        → Found (suc i) (a ∷ b ∷ tape) (choose x (accept (256 * a + b) (run i (draws tape))) (throw (run (suc i) (draws tape))))
    go later again true e = found_accept i a b tape (limit_accepts (suc (suc i)) (256 * a + b) (ltb-true (256 * a + b) (limit (suc (suc i))) e)) later
    go later again false e =
        let most = ltb-false (256 * a + b) (limit (suc (suc i))) e in
        found_throw i a b tape (λ ok. omega (arith, most, accepts_limit (suc i) (256 * a + b) ok)) again

pub run_drawn : (i : ℕ) (tape ds : List ℕ) (n : ℕ) → run i (draws tape) ≡ Accepted ds n
    → (2 * n ≤ length tape) × Drawing i (take (2 * n) tape) ds
run_drawn i tape ds n e = accepted (subst (Found i tape) e (run-found i tape))
  where
    accepted : Found i tape (Accepted ds n) → (2 * n ≤ length tape) × Drawing i (take (2 * n) tape) ds
    accepted (found _ _ l k q) = (l, q)

-- And draws by these words are what the run comes to, whatever stands behind them.
pub drawing_run : {i : ℕ} {bytes ds : List ℕ} → Drawing i bytes ds → (rest : List ℕ)
    → (n : ℕ) × (length bytes ≡ 2 * n) × (run i (draws (bytes ++ rest)) ≡ Accepted ds n)
unfolding run draws
drawing_run Drawing.done rest = (0, omega arith, refl)
drawing_run (Drawing.thrown i a b bytes ds out q) rest =
    let r = drawing_run q rest in
    let over : limit (suc (suc i)) ≤ 256 * a + b =
    ⊎_elim (λ l. absurd (out (limit_accepts (suc (suc i)) (256 * a + b) l))) (λ l. l) (below (256 * a + b) (limit (suc (suc i)))) in
    (suc r.0, omega (arith, r.1), rw (le-ltb (256 * a + b) (limit (suc (suc i))) over, r.2) refl)
drawing_run (Drawing.taken i a b bytes ds ok q) rest =
    let r = drawing_run q rest in
    (suc r.0, omega (arith, r.1), rw (lt-ltb (256 * a + b) (limit (suc (suc i))) (accepts_limit (suc i) (256 * a + b) ok), r.2) refl)
