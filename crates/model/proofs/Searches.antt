-- What the search of a claim finds. Assumes nothing.
use Prim.Native.Nat.{ℕ, zero, suc, ◌≤◌, ◌<◌}
use mathlib.Core.Path.{◌≡◌, refl, sym, ap, ◌∙◌}
use mathlib.Core.Logic.{⊎_elim}
use mathlib.Core.Bool.{Bool, true, false}
use mathlib.Core.List.{List, [], ◌∷◌}
use native.Mathlib.Nat.{add-zero, eq-or-lt_of_le, le_of_suc-le-suc, le_refl}
use native.Mathlib.Omega.{arith}
use lib.ListN.{length, get_or, drop, length-drop, drop_of_length-le}
use lib.Seq.{get_or-drop, drop-cons}
use lib.Dec.{ltb, eqb}
use borrow.Author.Tests.{ltb-true, ltb-false, eqb-true, eqb-false, lt-ltb, le-ltb, eq-eqb, ne_eqb}
use Rattle.model.specs.declared.Search.{Search}
use Rattle.model.specs.declared.Search.TheVariants.{Free, Bad, Full}
use Rattle.model.specs.Conditions.{slice_at, AllHeld, FirstFree, FirstBad}
use Rattle.model.specs.Search.{seen, search, first_free}

module _ (owners : List ℕ) (p : ℕ) (perm : List ℕ) where
  -- A slice that is held is passed.
  first_free_next : (n : ℕ) → n < length perm → slice_at perm n < p → (get_or owners (slice_at perm n) 0 ≡ 0 → ⊥)
      → first_free owners p n perm ≡ first_free owners p (suc n) perm
  unfolding first_free search
  first_free_next n inside slice taken = rw (drop-cons perm n 0 inside, lt-ltb _ _ slice, ne_eqb _ _ taken) refl

  -- So are all from a start on.
  pub first_free_skips : (start n : ℕ) → start ≤ n → n ≤ length perm → AllHeld owners p perm start n
      → first_free owners p start perm ≡ first_free owners p n perm
  first_free_skips start zero from inside held = let e : start ≡ 0 = omega (arith, from) in ap (λ (m : ℕ). first_free owners p m perm) e
  first_free_skips start (suc n) from inside held =
      ⊎_elim (λ e. ap (λ (m : ℕ). first_free owners p m perm) e)
      (λ l. let this = held n (le_of_suc-le-suc l) (omega arith) in
      first_free_skips start n (le_of_suc-le-suc l) (omega (arith, inside)) (λ m s b. held m s (omega (arith, b)))
      ∙ first_free_next n (omega (arith, inside)) this.0 this.1)
      (eq-or-lt_of_le from)

  -- What the words for the end of a search say is what the search finds.
  pub free_found : (start n : ℕ) → FirstFree owners p perm start n → first_free owners p start perm ≡ Free (slice_at perm n) n
  unfolding first_free search
  free_found start n f =
      first_free_skips start n f.from (omega (arith, f.inside)) f.before
      ∙ rw (drop-cons perm n 0 f.inside, lt-ltb _ _ f.slice, eq-eqb _ _ f.free) refl

  pub bad_found : (start n : ℕ) → FirstBad owners p perm start n → first_free owners p start perm ≡ Bad n
  unfolding first_free search
  bad_found start n f =
      first_free_skips start n f.from (omega (arith, f.inside)) f.before
      ∙ rw (drop-cons perm n 0 f.inside, le-ltb _ _ f.bad) refl

  pub none_found : (start : ℕ) → start ≤ length perm → AllHeld owners p perm start (length perm) → first_free owners p start perm ≡ Full
  unfolding first_free search
  none_found start inside held =
      first_free_skips start (length perm) inside (le_refl (length perm)) held ∙ rw (drop_of_length-le perm (le_refl (length perm))) refl

  module _ (start : ℕ) where
    -- What a result of the search says of the permutation.
    abbrev pub Finds : Search → Type 0
    Finds (Free ψ n) = FirstFree owners p perm start n × (slice_at perm n ≡ ψ)
    Finds (Bad n) = FirstBad owners p perm start n
    Finds Full = AllHeld owners p perm start (length perm)

    -- From place n on, where the slices before it are held.
    search_finds : (slices : List ℕ) (n : ℕ) → drop n perm ≡ slices → start ≤ n → AllHeld owners p perm start n
        → Finds (search owners p n slices)
    unfolding search
    search_finds [] n e from held = λ m s l. held m s (omega (arith, ap length e, length-drop n perm))
    search_finds (ψ ∷ slices) n e from held =
        go (ltb ψ p) refl (eqb (get_or owners ψ 0) 0) refl (search_finds slices (suc n) tail (omega (arith, from)))
      where
        inside : n < length perm
        inside = omega (arith, ap length e, length-drop n perm)

        this : slice_at perm n ≡ ψ
        this = ap (slice_at perm) (sym (add-zero n)) ∙ sym (get_or-drop n perm 0 0) ∙ ap (λ (l : List ℕ). get_or l 0 0) e

        tail : drop (suc n) perm ≡ slices
        tail = let q : slice_at perm n ∷ drop (suc n) perm ≡ ψ ∷ slices = sym (drop-cons perm n 0 inside) ∙ e in cc

        go : (x : Bool) → ltb ψ p ≡ x → (y : Bool) → eqb (get_or owners ψ 0) 0 ≡ y
            → (AllHeld owners p perm start (suc n) → Finds (search owners p (suc n) slices))
            → Finds (seen x y ψ n (search owners p (suc n) slices))
        go false out y ey ih = record { from = from; inside = inside; bad = rw this (ltb-false ψ p out); before = held }
        go true in' true free ih = (
          record { from = from; inside = inside; slice = rw this (ltb-true ψ p in'); free = rw this (eqb-true _ _ free); before = held },
          this,
        )
        go true in' false taken ih =
            ih (λ m s l. ⊎_elim (λ e. let q : slice_at perm m ≡ ψ = ap (slice_at perm) e ∙ this in rw q (ltb-true ψ p in', eqb-false _ _ taken))
            (held m s) (eq-or-lt_of_le (le_of_suc-le-suc l)))

    pub first_free_finds : Finds (first_free owners p start perm)
    unfolding first_free
    first_free_finds = search_finds (drop start perm) start refl (le_refl start) (λ m s l. absurd (omega (arith, s, l)))

    -- A slice that is found is one, and a place where the search ends is one of the permutation's, from the start on.
    pub first_free_free : (ψ n : ℕ) → first_free owners p start perm ≡ Free ψ n → (ψ < p) × (n < length perm) × (start ≤ n)
    first_free_free ψ n e =
        let f : Finds (Free ψ n) = rw e at first_free_finds in
        (rw f.1 at f.0.slice, f.0.inside, f.0.from)

    pub first_free_bad : (n : ℕ) → first_free owners p start perm ≡ Bad n → (n < length perm) × (start ≤ n)
    first_free_bad n e = let f : Finds (Bad n) = rw e at first_free_finds in (f.inside, f.from)
