-- From a run to an ordering with quotients and back: exchange by exchange the list comes to agree with the ordering from the last place
-- down. Assumes nothing.
use Prim.Native.Nat.{ℕ, zero, suc, ◌+◌, ◌*◌, ◌/◌, ◌%◌, ◌≤◌, ◌<◌}
use mathlib.Core.Path.{◌≡◌, refl, sym, ap, ap₂, ◌∙◌}
use mathlib.Core.List.{List, [], ◌∷◌}
use mathlib.Core.Logic.{◌⊎◌, inl, inr, ⊎_elim}
use native.Mathlib.Omega.{arith}
use native.Mathlib.Nat.{div-add-mod', div-lt_iff_lt-mul, le-div_iff_mul-le}
use lib.ListN.{length}
use lib.Seq.{ext_get_or}
use lib.Arith.{digits_div, digits_mod}
use Rattle.model.specs.Permutation.{place_of}
use Rattle.model.specs.Conditions.{slice_at, Names, Exchanged, Accepts}
use Rattle.model.specs.Shuffle.{exchanged, ordered}
use Rattle.model.proofs.Tests.{below, equal}
use Rattle.model.proofs.Permutations.{names_below, names_once, names_place}
use Rattle.model.proofs.Shuffles.{exchanged_is, exchanged_names, place_lt}
use Rattle.evenness.specs.Runs.{OneEach}
use Rattle.evenness.specs.Evenness.{Quotient, quotients_of, draws_of}

-- Place i is one of P, or there is none to draw for.
abbrev pub Place : (p i : ℕ) → Type 0
Place p i = i < p ⊎ (i ≡ 0)

place_down : (p i : ℕ) → Place p (suc i) → suc i < p
place_down p i (inl l) = l
place_down p i (inr z) = absurd (omega (arith, z))

-- ---- the place of a slice

-- In a list that names each slice once, the place of what stands at j is j.
place_of_lem : (p : ℕ) (xs : List ℕ) → Names p xs → (j : ℕ) → j < p → place_of (slice_at xs j) xs ≡ j
place_of_lem p xs names j l =
    let inside : j < length xs = omega (arith, l, names.places) in
    let q = names_place p xs (slice_at xs j) names (names_below p xs names j inside) in
    names_once p xs names (place_of (slice_at xs j) xs) j q.inside inside q.is

-- ---- stages

-- Both name each slice once, and they agree above place i.
pub record Stage (p i : ℕ) (xs perm : List ℕ) : Type 0 where
  pub left : Names p xs
  pub right : Names p perm
  pub agree : (n : ℕ) → i < n → slice_at xs n ≡ slice_at perm n

-- What perm has at place i stands in xs at a place up to i.
module _ (p i : ℕ) (xs perm : List ℕ) (stage : Stage p i xs perm) (l : i < p) where
  abbrev ψ : ℕ
  ψ = slice_at perm i

  inside : i < length perm
  inside = omega (arith, l, stage.right.places)

  stage_is : slice_at xs (place_of ψ xs) ≡ ψ
  stage_is = (names_place p xs ψ stage.left (names_below p perm stage.right i inside)).is

  stage_place : place_of ψ xs ≤ i
  stage_place = ⊎_elim above (λ h. h) (below i (place_of ψ xs))
    where
      above : i < place_of ψ xs → place_of ψ xs ≤ i
      above h =
          let q = names_place p xs ψ stage.left (names_below p perm stage.right i inside) in
          let same = names_once p perm stage.right (place_of ψ xs) i (omega (arith, q.inside, stage.left.places, stage.right.places)) inside
          (sym (stage.agree (place_of ψ xs) h) ∙ q.is) in
          absurd (omega (arith, h, same))

-- The exchange of place i + 1 with that place is a stage further.
stage-next : (p i : ℕ) (xs perm : List ℕ) → Stage p (suc i) xs perm → suc i < p
    → Stage p i (exchanged (suc i) (place_of (slice_at perm (suc i)) xs) xs) perm
stage-next p i xs perm stage l =
    record { left = exchanged_names (suc i) j xs p l jp stage.left; right = stage.right; agree = agree }
  where
    j : ℕ
    j = place_of (slice_at perm (suc i)) xs

    ji : place_of (slice_at perm (suc i)) xs ≤ suc i
    ji = stage_place p (suc i) xs perm stage l

    jp : place_of (slice_at perm (suc i)) xs < p
    jp = omega (arith, ji, l)

    is : Exchanged (suc i) (place_of (slice_at perm (suc i)) xs) xs (exchanged (suc i) (place_of (slice_at perm (suc i)) xs) xs)
    is = exchanged_is (suc i) j xs (omega (arith, l, stage.left.places)) (omega (arith, jp, stage.left.places))

    agree : (n : ℕ) → i < n → slice_at (exchanged (suc i) (place_of (slice_at perm (suc i)) xs) xs) n ≡ slice_at perm n
    agree n h = ⊎_elim here above (equal n (suc i))
      where
        here : n ≡ suc i → slice_at (exchanged (suc i) (place_of (slice_at perm (suc i)) xs) xs) n ≡ slice_at perm n
        here e =
            ap (slice_at (exchanged (suc i) j xs)) e ∙ is.one ∙ stage_is p (suc i) xs perm stage l ∙ ap (slice_at perm) (sym e)

        above : (n ≡ suc i → ⊥) → slice_at (exchanged (suc i) (place_of (slice_at perm (suc i)) xs) xs) n ≡ slice_at perm n
        above ne =
            let far : suc i < n = ⊎_elim (λ k. k) (λ k. absurd (ne (omega (arith, k, h)))) (below (suc i) n) in
            is.rest n ne (λ e. omega (arith, e, ji, far)) ∙ stage.agree n far

-- Where they agree above place 0, they are equal.
stage_end : (p : ℕ) (xs perm : List ℕ) → Stage p 0 xs perm → xs ≡ perm
stage_end p xs perm stage = ext_get_or 0 xs perm (stage.left.places ∙ sym stage.right.places) each
  where
    each : (n : ℕ) → n < length xs → slice_at xs n ≡ slice_at perm n
    each zero l =
        let h : 0 < p = omega (arith, l, stage.left.places) in
        let at : place_of (slice_at perm 0) xs ≡ 0 = omega (arith, stage_place p 0 xs perm stage h) in
        sym (ap (slice_at xs) at) ∙ stage_is p 0 xs perm stage h
    each (suc n) l = stage.agree (suc n) (omega arith)

-- ---- from an ordering with quotients

-- A quotient below 65,536 / n and a place among n choices make a draw that is accepted.
draw_accepted : (i q j : ℕ) → Quotient (suc i) q → j ≤ i → Accepts (suc i) (q * suc i + j)
draw_accepted i q j l h =
    let most : suc q * suc i ≤ 65536 = (le-div_iff_mul-le {k = suc i} (omega arith)).0 l in
    (suc q, omega (arith, h), most)

module _ (p : ℕ) where
  pub draws_accepted : (i : ℕ) (xs perm qs : List ℕ) → Place p i → Stage p i xs perm → OneEach Quotient i qs
      → OneEach Accepts i (draws_of i xs perm qs)
  unfolding draws_of
  draws_accepted zero xs perm [] at stage fit = tt
  draws_accepted zero xs perm (q ∷ qs) at stage fit = absurd fit
  draws_accepted (suc i) xs perm [] at stage fit = absurd fit
  draws_accepted (suc i) xs perm (q ∷ qs) at stage fit =
      let l = place_down p i at in (
        draw_accepted (suc i) q (place_of (slice_at perm (suc i)) xs) fit.0 (stage_place p (suc i) xs perm stage l),
        draws_accepted i (exchanged (suc i) (place_of (slice_at perm (suc i)) xs) xs) perm qs (inl (omega (arith, l)))
            (stage-next p i xs perm stage l) fit.1,
      )

  pub from_ordering : (i : ℕ) (xs perm qs : List ℕ) → Place p i → Stage p i xs perm → OneEach Quotient i qs
      → ordered i (draws_of i xs perm qs) xs ≡ perm
  unfolding draws_of ordered
  from_ordering zero xs perm qs at stage fit = stage_end p xs perm stage
  from_ordering (suc i) xs perm [] at stage fit = absurd fit
  from_ordering (suc i) xs perm (q ∷ qs) at stage fit =
      let l = place_down p i at in
      let lt : place_of (slice_at perm (suc i)) xs < suc (suc i) = omega (arith, stage_place p (suc i) xs perm stage l) in
      let next = exchanged (suc i) (place_of (slice_at perm (suc i)) xs) xs in
      ap (λ (j : ℕ). ordered i (draws_of i next perm qs) (exchanged (suc i) j xs)) (digits_mod q lt)
      ∙ from_ordering i next perm qs (inl (omega (arith, l))) (stage-next p i xs perm stage l) fit.1

  pub from_quotients : (i : ℕ) (xs perm qs : List ℕ) → Place p i → Stage p i xs perm → OneEach Quotient i qs
      → quotients_of i (draws_of i xs perm qs) ≡ qs
  unfolding draws_of quotients_of
  from_quotients zero xs perm [] at stage fit = refl
  from_quotients zero xs perm (q ∷ qs) at stage fit = absurd fit
  from_quotients (suc i) xs perm [] at stage fit = absurd fit
  from_quotients (suc i) xs perm (q ∷ qs) at stage fit =
      let l = place_down p i at in
      let lt : place_of (slice_at perm (suc i)) xs < suc (suc i) = omega (arith, stage_place p (suc i) xs perm stage l) in
      ap₂ (λ (y : ℕ) (ys : List ℕ). y ∷ ys) (digits_div q lt)
      (from_quotients i (exchanged (suc i) (place_of (slice_at perm (suc i)) xs) xs) perm qs (inl (omega (arith, l)))
      (stage-next p i xs perm stage l) fit.1)

-- ---- from a run

pub quotients_suit : (i : ℕ) (ds : List ℕ) → OneEach Accepts i ds → OneEach Quotient i (quotients_of i ds)
unfolding quotients_of
quotients_suit zero ds run = tt
quotients_suit (suc i) [] run = absurd run
quotients_suit (suc i) (d ∷ ds) run =
    let a = run.0 in
    let low : d / suc (suc i) < a.0 = (div-lt_iff_lt-mul {k = suc (suc i)} (omega arith)).1 a.1 in
    let most : a.0 ≤ 65536 / suc (suc i) = (le-div_iff_mul-le {k = suc (suc i)} (omega arith)).1 a.2 in
    (omega (arith, low, most), quotients_suit i ds run.1)

-- Exchanges down from place i leave the places above it.
ordered_above : (i : ℕ) (ds xs : List ℕ) (n : ℕ) → i < n → i < length xs ⊎ (i ≡ 0) → slice_at (ordered i ds xs) n ≡ slice_at xs n
unfolding ordered
ordered_above zero ds xs n l at = refl
ordered_above (suc i) [] xs n l at = refl
ordered_above (suc i) (d ∷ ds) xs n l at =
    let lt = place_lt i d in
    let h = place_down (length xs) i at in
    let is = exchanged_is (suc i) (d % suc (suc i)) xs h (omega (arith, lt, h)) in
    ordered_above i ds (exchanged (suc i) (d % suc (suc i)) xs) n (omega (arith, l)) (inl (omega (arith, h, is.places)))
    ∙ is.rest n (λ e. omega (arith, e, l)) (λ e. omega (arith, e, lt, l))

pub from_run : (p i : ℕ) (xs ds : List ℕ) → Place p i → Names p xs → OneEach Accepts i ds
    → draws_of i xs (ordered i ds xs) (quotients_of i ds) ≡ ds
unfolding draws_of quotients_of ordered
from_run p zero xs [] at names run = refl
from_run p zero xs (d ∷ ds) at names run = absurd run
from_run p (suc i) xs [] at names run = absurd run
from_run p (suc i) xs (d ∷ ds) at names run =
    ap₂ (λ (y : ℕ) (ys : List ℕ). y ∷ ys) first
    (ap (λ (k : ℕ). draws_of i (exchanged (suc i) k xs) (ordered i ds ys) (quotients_of i ds)) place
    ∙ from_run p i ys ds (inl (omega (arith, l))) (exchanged_names (suc i) j xs p l (omega (arith, lt, l)) names) run.1)
  where
    l : suc i < p
    l = place_down p i at

    lt : d % suc (suc i) < suc (suc i)
    lt = place_lt i d

    j : ℕ
    j = d % suc (suc i)

    ys : List ℕ
    ys = exchanged (suc i) (d % suc (suc i)) xs

    is : Exchanged (suc i) (d % suc (suc i)) xs (exchanged (suc i) (d % suc (suc i)) xs)
    is = exchanged_is (suc i) (d % suc (suc i)) xs (omega (arith, l, names.places)) (omega (arith, lt, l, names.places))

    -- The slice that ends at place i + 1 stood at the place drawn.
    ends : slice_at (ordered i ds (exchanged (suc i) (d % suc (suc i)) xs)) (suc i) ≡ slice_at xs (d % suc (suc i))
    ends = ordered_above i ds (exchanged (suc i) (d % suc (suc i)) xs) (suc i) (omega arith) (inl (omega (arith, l, names.places, is.places))) ∙ is.one

    place : place_of (slice_at (ordered i ds (exchanged (suc i) (d % suc (suc i)) xs)) (suc i)) xs ≡ d % suc (suc i)
    place = ap (λ (ψ : ℕ). place_of ψ xs) ends ∙ place_of_lem p xs names (d % suc (suc i)) (omega (arith, lt, l))

    first : d / suc (suc i) * suc (suc i) + place_of (slice_at (ordered i ds (exchanged (suc i) (d % suc (suc i)) xs)) (suc i)) xs ≡ d
    first = ap (λ (k : ℕ). d / suc (suc i) * suc (suc i) + k) place ∙ div-add-mod' d (suc (suc i))
