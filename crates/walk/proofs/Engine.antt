-- The engine's write in a walk: what it can come to. Assumes nothing.
use Prim.Native.Nat.{ℕ, ◌+◌, ◌*◌, ◌≤◌, ◌<◌}
use mathlib.Core.Path.{◌≡◌, refl, sym, ap, ◌∙◌}
use mathlib.Core.Bool.{Bool, true, false, false≢true}
use mathlib.Core.Logic.{inl, inr, ⊎_elim}
use mathlib.Core.List.{List}
use native.Mathlib.Omega.{arith}
use lib.Dec.{ltb, leb, lit≤}
use lib.ListN.{length, get_or}
use borrow.Author.Tests.{ltb-true, ltb-false}
use Rattle.refusals.specs.Numbers.{refuse}
use Rattle.refusals.proofs.Refuse.{refuse_false}
use Rattle.model.specs.declared.Geometry.{Geometry}
use Rattle.model.specs.declared.Session.{Session}
use Rattle.model.specs.declared.Search.{Search}
use Rattle.model.specs.declared.Search.TheVariants.{Free, Bad, Full}
use Rattle.model.specs.Parts.{choose}
use Rattle.model.specs.Geometry.{device_length}
use Rattle.model.specs.Maps.{bad_in_block}
use Rattle.model.specs.Session.{Held, Outcome, geometry, count_of, block_count, slice_of, offset_of, entry_of, asked, short, unless, idle}
use Rattle.model.specs.Search.{first_free}
use Rattle.model.specs.Write.{WriteResult, claim_need, rewritten, rewrite_outcome, claimed, full, claim_outcome, write_refusal, write_model}
use Rattle.model.specs.Conditions.{EntryFits, Enough}
use Rattle.model.specs.Permutation.{member}
use Rattle.model.proofs.Tests.{equal_passes, bad_entry-fits}
use Rattle.model.proofs.Requests.{Stands, standing_stands, short_true, bad_in_block_fits}
use Rattle.model.proofs.Bounds.{b_bounds, per_block_least}
use Rattle.model.proofs.Searches.{first_free_free}
use Rattle.claims.specs.State.{zeros, endless}
use Rattle.claims.proofs.Claims.{zeros-length}
use Rattle.walk.specs.Theorems.{answer_numbers}

-- ---- either way of a test, and of a refusal

pub choose_cases : {A : Type 0} (P : A → Type 0) (b : Bool) {x y : A} → (b ≡ true → P x) → (b ≡ false → P y) → P (choose b x y)
choose_cases P true yes-case no-case = yes-case refl
choose_cases P false yes-case no-case = no-case refl

pub unless-cases : {A : Type 0} (P : A → Type 0) (b : Bool) (n rest : ℕ) (refusal : ℕ → A) (served : A)
    → (b ≡ true → P (unless n refusal served)) → (b ≡ false → P (unless rest refusal served)) → P (unless (refuse b n rest) refusal served)
unfolding refuse
unless-cases P true n rest refusal served refused passed = refused refl
unless-cases P false n rest refusal served refused passed = passed refl

-- ---- the write

-- A session and tables for which a write is never refused by 20, 2, 4 or 9: every entry is the mark or a slice, and every volume has
-- N = P, so that an entry may stand at any logical slice.
pub record Fits (maps owners : List ℕ) (s : Session) : Type 0 where
  pub stands : Stands (device_length s.geometry) (length maps) (length owners) s
  pub entries : (n : ℕ) → EntryFits s.geometry (get_or maps n 0)
  pub whole : (i : ℕ) → i ≤ s.k → count_of s i ≡ s.geometry.p

abbrev pub FitsOf : Held → Type 0
FitsOf h = Fits h.maps h.owners h.session

module _ (h : Held) (perm : List ℕ) (i a : ℕ) where
  abbrev g : Geometry
  g = geometry h

  abbrev text : List ℕ
  text = zeros g.b

  abbrev j : ℕ
  j = offset_of g a

  module _ (fits : FitsOf h) (places : length perm ≡ g.p) (room : h.position + 4112 ≤ 4096 * 4112) where
    -- Of the refusals before the search only 11 and 12 are left.
    write_refusal_asked : write_refusal (device_length g) h.maps h.owners h.session i a (length text) (length perm)
        ≡ refuse (ltb h.session.k i) 11 (refuse (leb (block_count h.session i) a) 12 0)
    unfolding write_refusal asked
    write_refusal_asked =
        standing_stands _ _ _ _ _ fits.stands
        ∙ refuse_false _ _ _ (equal_passes _ _ places)
        ∙ ap (λ (n : ℕ). refuse (ltb h.session.k i) 11 (refuse (leb (block_count h.session i) a) 12 n))
        (refuse_false _ _ _ (equal_passes _ _ (zeros-length g.b)) ∙ refuse_false _ _ _ (bad_entry-fits _ _ (fits.entries _)))

    -- The tape has what a write needs.
    endless_enough : (need : ℕ) → need ≤ 4112 → Enough (length endless) h.position need
    endless_enough need l = rw (zeros-length (4096 * 4112)) (omega arith)

    -- No entry of a map block is bad.
    block_fits : i ≤ h.session.k → bad_in_block h.maps h.session i (slice_of g a) ≡ false
    block_fits v =
        bad_in_block_fits h.maps h.session i (slice_of g a) (per_block_least g fits.stands.usable.allowed)
        (λ τ l same. ⊎_elim (λ q. inl q) (λ q. inr (q, omega (arith, fits.whole i v))) (fits.entries _))

    -- Refused by a listed number, full, rewritten, or a slice claimed.
    pub write_cases : (P : Outcome WriteResult → Type 0)
        → ((n probes : ℕ) → member n answer_numbers ≡ true → P (idle h (WriteResult.Refused n probes))) → P (full h)
        → ((ψ : ℕ) → ψ < g.p → P (rewritten h i ψ j text endless))
        → ((ψ place : ℕ) → ψ < g.p → place < g.p → P (claimed h i (slice_of g a) j ψ place text endless))
        → P (write_model (device_length g) h i a text perm endless)
    unfolding write_model
    write_cases P refused none re cl =
        rw write_refusal_asked
        (unless-cases P _ _ _ _ _ (λ e. refused 11 0 refl)
        (λ above. unless-cases P _ _ _ _ _ (λ e. refused 12 0 refl)
        (λ e. choose_cases P (ltb ψ₀ g.p) (λ l. rewrites ψ₀ (ltb-true ψ₀ g.p l))
        (λ l. choose_cases P (bad_in_block h.maps h.session i (slice_of g a))
        (λ bad. absurd (false≢true (sym (block_fits (ltb-false _ _ above)) ∙ bad))) (λ q. claims _ refl)))))
      where
        ψ₀ : ℕ
        ψ₀ = entry_of h.maps g i a

        rewrites : (ψ : ℕ) → ψ < g.p → P (rewrite_outcome h i ψ j text endless)
        rewrites ψ l =
            choose_cases P (short (length endless) h.position 16) (λ s. absurd (short_true _ _ _ s (endless_enough 16 (lit≤ tt)))) (λ s. re ψ l)

        claims : (s : Search) → first_free h.owners g.p h.session.start perm ≡ s → P (claim_outcome h i (slice_of g a) j text endless s)
        claims (Bad place) e = refused 5 _ refl
        claims Full e = none
        claims (Free ψ place) e =
            choose_cases P (short (length endless) h.position (claim_need g))
            (λ s. absurd (short_true _ _ _ s (endless_enough (claim_need g) (omega (arith, b_bounds g fits.stands.usable.allowed)))))
            (λ s. let found = first_free_free _ _ perm _ ψ place e in cl ψ place found.0 (omega (arith, found.1)))
