-- Arrays that the library makes with a closure, where each call keeps what the closure holds and gives a function of its argument.
-- Assumes nothing.
use Rattle.std.proofs.Common.{◌≡◌, ◌∙◌, sym, subst, ap, ⊎_elim, ℕ, zero, suc, ◌+◌, ◌<◌, ◌≤◌, List, get_or, map, arith}
use Rattle.std.specs.Array.{IsFromFnResult, IsFromFnResultFrom, IsMapOf, MapsFrom}
use Rattle.std.specs.Fn.{Called, Mut}
use Rattle.std.specs.List.{range_with_len}
use Rattle.std.proofs.Math.Nat.{eq-or-lt_of_le}
use Rattle.std.proofs.lemmas.List.FromFn.{fill_by_all}

module _ {F : Type 0} (g : Mut F (ℕ × Unit {0}) ℕ) (v : ℕ → ℕ) (f : F)
    (gives : (x y : ℕ) (q : F) → Called g f (x, tt) y q → (q ≡ f) × (y ≡ v x)) where
  from : (ys : List ℕ) (i n k : ℕ) → IsFromFnResultFrom g f ys i n → i ≤ k → k < i + n → get_or ys k 0 ≡ v k
  from ys i zero k e p h = absurd (omega arith)
  from ys i (suc n) k e p h =
      let s = gives i e.1 e.0 e.3 in
      ⊎_elim (λ (z : i ≡ k). rw (← z) (e.2.1 0 ∙ s.1))
      (λ (l : i < k). from ys (i + 1) n k (subst (λ (q : F). IsFromFnResultFrom g q ys (i + 1) n) s.0 e.4) (omega arith) (omega arith))
      (eq-or-lt_of_le p)

  -- Made from the indices.
  pub made : (ys : List ℕ) (n : ℕ) → IsFromFnResult g f ys n → ys ≡ map v (range_with_len 0 n)
  made ys n r = fill_by_all v ys n 0 r.long (λ k h. from ys 0 n k r.each (omega arith) (omega arith))

  mapped_from : (xs ys : List ℕ) (i n k : ℕ) → MapsFrom g f xs ys i n → i ≤ k → k < i + n → get_or ys k 0 ≡ v (get_or xs k 0)
  mapped_from xs ys i zero k e p h = absurd (omega arith)
  mapped_from xs ys i (suc n) k e p h =
      let s = gives e.1 e.2 e.0 e.5 in
      ⊎_elim (λ (z : i ≡ k). rw (← z) (e.4.1 0 ∙ s.1 ∙ ap v (sym (e.3.1 0))))
      (λ (l : i < k). mapped_from xs ys (i + 1) n k (subst (λ (q : F). MapsFrom g q xs ys (i + 1) n) s.0 e.6) (omega arith) (omega arith))
      (eq-or-lt_of_le p)

  -- Made from the elements of another.
  pub mapped : (xs ys : List ℕ) (n : ℕ) → IsMapOf g f xs ys n → ys ≡ map (λ i. v (get_or xs i 0)) (range_with_len 0 n)
  mapped xs ys n r =
      fill_by_all (λ i. v (get_or xs i 0)) ys n 0 r.long (λ k h. mapped_from xs ys 0 n k r.each (omega arith) (omega arith))
