-- A turn of the search for a free slice, by what its tests say. Assumes nothing.
use mathlib.Core.Path.{◌≡◌, refl, sym, ◌∙◌}
use mathlib.Core.Bool.{Bool, true, false, cond}
use mathlib.Core.List.{List}
use Prim.Native.Nat.{ℕ, suc, ◌+◌, ◌≤◌, ◌<◌}
use native.Mathlib.Numerals.{add-one}
use native.Mathlib.Omega.{arith}
use borrow.Author.Tests.{lt-ltb, le-ltb, eq-eqb, ne_eqb}
use lib.ListN.{length, get_or, drop, drop_of_length-le}
use lib.Seq.{drop-cons}
use lib.Dec.{ltb, eqb}
use Rattle.model.specs.declared.Search.TheVariants.{Free, Bad, Full}
use Rattle.model.specs.Search.{seen, search}
use Rattle.model.specs.Parts.{choose}
use Rattle.model.specs.Permutation.{place_of}
use Rattle.std.specs.List.{position, position_or_len}
use Rattle.std.specs.Prelude.{Some, None}
use Rattle.std.specs.Option.{unwrap_or}
use Rattle.std.proofs.lemmas.Bool.{cases_lt}
use Rattle.std.proofs.lemmas.List.Sums.{prefix_len-le-length}
use mathlib.Core.Logic.{⊎_elim}
use Rattle.std.proofs.lemmas.List.Recursion.{is_position_or_len}

module _ (owners : List ℕ) (p place : ℕ) (perm : List ℕ) (inside : place < length perm) where
  abbrev slice : ℕ
  slice = get_or perm place 0

  search_turn : search owners p place (drop place perm)
      ≡ seen (ltb slice p) (eqb (get_or owners slice 0) 0) slice place (search owners p (place + 1) (drop (place + 1) perm))
  unfolding search
  search_turn = rw (drop-cons perm place 0, add-one place) refl

  pub search_bad : p ≤ slice → search owners p place (drop place perm) ≡ Bad place
  search_bad past = search_turn ∙ rw (le-ltb slice p past) refl

  pub search_free : slice < p → get_or owners slice 0 ≡ 0 → search owners p place (drop place perm) ≡ Free slice place
  search_free below free = search_turn ∙ rw (lt-ltb slice p below, eq-eqb (get_or owners slice 0) 0 free) refl

  pub search_next : slice < p → (get_or owners slice 0 ≡ 0 → ⊥)
      → search owners p place (drop place perm) ≡ search owners p (place + 1) (drop (place + 1) perm)
  search_next below taken = search_turn ∙ rw (lt-ltb slice p below, ne_eqb (get_or owners slice 0) 0 taken) refl

-- Past the last place nothing is found.
pub search_done : (owners : List ℕ) (p place : ℕ) (perm : List ℕ) → length perm ≤ place → search owners p place (drop place perm) ≡ Full
unfolding search
search_done owners p place perm past = rw (drop_of_length-le perm past) refl

-- The place of a slice, as std finds it.
taken_step : (b : Bool) (n : ℕ) → choose b 0 (suc n) ≡ cond b 0 (1 + n)
taken_step true n = refl
taken_step false n = omega arith

place_of_first : (ψ : ℕ) (perm : List ℕ) → place_of ψ perm ≡ position_or_len (λ φ. eqb φ ψ) perm
unfolding place_of
place_of_first ψ perm = is_position_or_len (place_of ψ) (λ φ. eqb φ ψ) refl (λ φ slices. taken_step (eqb φ ψ) (place_of ψ slices)) perm

or_len : (n len : ℕ) → n ≤ len → unwrap_or (cond (ltb n len) (Some n) None) len ≡ n
or_len n len l = ⊎_elim (λ less. rw (lt-ltb n len less) refl) (λ past. rw (le-ltb n len past) (omega arith)) (cases_lt n len)

pub place_found : (ψ : ℕ) (perm : List ℕ) → unwrap_or (position (λ φ. eqb φ ψ) perm) (length perm) ≡ place_of ψ perm
place_found ψ perm = or_len (position_or_len (λ φ. eqb φ ψ) perm) (length perm) (prefix_len-le-length _ perm) ∙ sym (place_of_first ψ perm)
