-- Where the search of a claim ends, and that its results shut one another out. Assumes nothing.
use Prim.Native.Nat.{ℕ}
use mathlib.Core.Logic.{inl, inr}
use mathlib.Core.List.{List}
use native.Mathlib.Omega.{arith}
use Rattle.model.specs.declared.Search.{Search}
use Rattle.model.specs.declared.Search.TheVariants.{Free, Bad, Full}
use Rattle.model.specs.Session.{Held, geometry}
use Rattle.model.specs.Search.{first_free}
use Rattle.model.proofs.Searches.{Finds, first_free_finds}
use Rattle.guarantees.specs.Rules.{SearchEnds, FreeAt, BadAt, NoneFree}

module _ (h : Held) (perm : List ℕ) where
  finds_ends : (s : Search) → Finds h.owners (geometry h).p perm h.session.start s → (n : ℕ) × SearchEnds h perm n
  finds_ends (Free ψ n) found = (n, inl found.0)
  finds_ends (Bad n) found = (n, inr (inl found))
  finds_ends Full found = (0, inr (inr found))

  pub search_ends : (n : ℕ) × SearchEnds h perm n
  search_ends =
      finds_ends (first_free h.owners (geometry h).p h.session.start perm)
      (first_free_finds h.owners (geometry h).p perm h.session.start)

  -- The three results shut one another out.
  pub free_not_bad : (n : ℕ) → FreeAt h perm n → BadAt h perm n → ⊥
  free_not_bad n f b = omega (arith, f.slice, b.bad)

  pub free_not_full : (n : ℕ) → FreeAt h perm n → NoneFree h perm → ⊥
  free_not_full n f all = (all n f.from f.inside).1 f.free

  pub full_not_bad : (n : ℕ) → NoneFree h perm → BadAt h perm n → ⊥
  full_not_bad n all b = omega (arith, (all n b.from b.inside).0, b.bad)
