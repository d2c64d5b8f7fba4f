-- Laws of what an opening leaves, by what its steps found. Assumes nothing.
use Prim.Native.Nat.{ℕ}
use native.Mathlib.Omega.{arith}
use mathlib.Core.Path.{◌≡◌, refl, sym, ap, ap₂, subst}
use mathlib.Core.List.{List, []}
use mathlib.Core.Bool.{true}
use lib.ListN.{length}
use Rattle.std.specs.Prelude.{Result, Err}
use Rattle.refusals.specs.declared.Refusal.{Refusal}
use Rattle.refusals.specs.Numbers.{refusal_number}
use Rattle.refusals.proofs.Positive.{refusal_positive}
use Rattle.model.specs.declared.Geometry.{Geometry}
use Rattle.model.specs.declared.Session.{Session}
use Rattle.model.specs.Geometry.{cell_of, header_of}
use Rattle.model.specs.Search.{first_free, start_place}
use Rattle.model.specs.Opening.{Cell, At, NoCell, first_cell, Chain, Keys, Broken, chain}
use Rattle.model.specs.Opening.{Loaded, Tables, Spoilt, load_maps, open_refusal}
use Rattle.model.specs.Opening.{OpenResult, OpenTo, OpenOutcome, no_session, untouched, wiped, with_tables, with_keys, with_cell, open_model}
use Rattle.model.specs.Answers.{open_result, OpenLeaves}
use Rattle.model.proofs.Order.{unless_refused_lem}
use Rattle.chaining.specs.Steps.{ChainOpened}

-- ---- the outcome

module _ (g : Geometry) (perm : List ℕ) (header : ℕ → List ℕ) where
  with_keys_broken : (ch : Chain) (k : ℕ) (r : Refusal) (keys counts : List ℕ) → ChainOpened ch k (refusal_number r) keys counts
      → with_keys g perm header k ch ≡ wiped g (refusal_number r)
  unfolding with_keys
  with_keys_broken (Keys veks ns) k r keys counts (e, q, t) = absurd (omega (arith, e, refusal_positive r))
  with_keys_broken (Broken m) k r keys counts (e, q) = ap (wiped g) (sym e)

  with_keys_served : (ch : Chain) (k : ℕ) (keys counts : List ℕ) → ChainOpened ch k 0 keys counts
      → with_keys g perm header k ch ≡ with_tables g perm k keys counts (load_maps g header keys counts k)
  unfolding with_keys
  with_keys_served (Keys veks ns) k keys counts (e, q, t) =
      ap₂ (λ (x y : List ℕ). with_tables g perm k x y (load_maps g header x y k)) (sym q) (sym t)
  with_keys_served (Broken m) k keys counts (e, q) = absurd (q refl)

  pub with_cell_none : {o : Cell} → o ≡ NoCell → with_cell g perm header o ≡ wiped g 6
  unfolding with_cell
  with_cell_none e = rw e

  module _ {o : Cell} (k : ℕ) (vmk : List ℕ) (at : o ≡ At k vmk) where
    pub with_cell_broken : (r : Refusal) (keys counts : List ℕ) → ChainOpened (chain g header k vmk [] []) k (refusal_number r) keys counts
        → with_cell g perm header o ≡ wiped g (refusal_number r)
    unfolding with_cell
    with_cell_broken r keys counts opened = rw at (with_keys_broken (chain g header k vmk [] []) k r keys counts opened)

    pub with_cell_served : (keys counts : List ℕ) → ChainOpened (chain g header k vmk [] []) k 0 keys counts
        → with_cell g perm header o ≡ with_tables g perm k keys counts (load_maps g header keys counts k)
    unfolding with_cell
    with_cell_served keys counts opened = rw at (with_keys_served (chain g header k vmk [] []) k keys counts opened)

pub with_tables_spoilt : (g : Geometry) (perm : List ℕ) (k : ℕ) (keys counts : List ℕ) {l : Loaded} {n : ℕ} → l ≡ Spoilt n
    → with_tables g perm k keys counts l ≡ wiped g n
unfolding with_tables
with_tables_spoilt g perm k keys counts e = rw e

module _ (device : List ℕ) (g : Geometry) (key maps owners perm : List ℕ) where
  pub open_model_refused : (r : Refusal) → refusal_number r ≡ open_refusal g (length device) (length key) (length maps) (length owners) perm
      → open_model device g key maps owners perm ≡ untouched maps owners (refusal_number r)
  unfolding open_model
  open_model_refused r e = rw (← e) (unless_refused_lem (refusal_number r) _ _ (refusal_positive r))

  pub open_model_served : 0 ≡ open_refusal g (length device) (length key) (length maps) (length owners) perm
      → open_model device g key maps owners perm ≡ with_cell g perm (header_of g device) (first_cell key (cell_of device) 15 0)
  unfolding open_model
  open_model_served e = rw (← e)

-- ---- what is left

-- A refused opening, with the tables as they are to be.
pub leaves_refused : (m w : List ℕ) (r : Refusal) {o : OpenOutcome} {answer : Result ℕ Refusal} {maps owners : List ℕ} {session : Session}
    → o ≡ untouched m w (refusal_number r) → maps ≡ m → owners ≡ w → (answer ≡ Err r) × (session ≡ no_session)
    → OpenLeaves o (open_result answer) maps owners session
leaves_refused m w r e em ew f = rw (e, f.0) (record { answered = refl; mapped = em; owned = ew; handed = f.1 })

-- A served one, with the start place that was found in the owner table.
pub leaves_opened : (g : Geometry) (perm : List ℕ) (k : ℕ) (keys counts : List ℕ) {l : Loaded} {maps owners : List ℕ} → l ≡ Tables maps owners
    → length owners ≡ g.p → (n : ℕ) → n ≡ start_place (length owners) (first_free owners (length owners) 0 perm)
    → OpenLeaves (with_tables g perm k keys counts l) (OpenTo k) maps owners
    (record { geometry = g; k = k; keys = keys; opened = true; start = n; counts = counts })
unfolding with_tables
leaves_opened g perm k keys counts e long n first =
    rw (e, first, long) (record { answered = refl; mapped = refl; owned = refl; handed = refl })

pub leaves_by : {o p : OpenOutcome} → o ≡ p → (answer : OpenResult) (maps owners : List ℕ) (session : Session)
    → OpenLeaves o answer maps owners session → OpenLeaves p answer maps owners session
leaves_by e answer maps owners session h = subst (λ (x : OpenOutcome). OpenLeaves x answer maps owners session) e h
