-- A slice that is given back, and a slice that is claimed. Assumes nothing.
use Prim.Native.Nat.{ℕ, suc, ◌+◌, ◌*◌, ◌<◌}
use mathlib.Core.Path.{◌≡◌, refl, sym, ap, ◌∙◌, subst}
use mathlib.Core.List.{List, [], ◌∷◌}
use mathlib.Core.Logic.{inl, inr}
use native.Mathlib.Omega.{arith}
use native.Mathlib.Nat.{min-le_right, div-lt_iff_lt-mul}
use lib.ListN.{length, get_or, replicate}
use lib.Arith.{digits_lt, digits_div}
use borrow.Author.Tests.{ne_eqb}
use Rattle.model.specs.declared.Geometry.{Geometry}
use Rattle.model.specs.declared.Change.TheVariants.{Claimed}
use Rattle.model.specs.Parts.{part, overlay, patched}
use Rattle.model.specs.Geometry.{Allowed, slice_start}
use Rattle.model.specs.Permutation.{place_of}
use Rattle.model.specs.Session.{Held, Outcome, geometry, key_of, count_of, slice_of, offset_of, unmapped}
use Rattle.model.specs.Conditions.{Enough, slice_at}
use Rattle.model.specs.Read.{deciphered, read_model}
use Rattle.model.specs.Write.{WriteResult, claim_need, claimed_bytes, claimed, write_model}
use Rattle.model.specs.Release.{ReleaseResult, released, release_model}
use Rattle.model.proofs.Parts.{part_length, overlay_length, patched-length}
use Rattle.model.proofs.Bounds.{offset_of_lt, map_block_of_lem}
use Rattle.model.proofs.Blocks.{deciphered_unmapped}
use Rattle.model.proofs.Requests.{read_refusal_served, asked_slice}
use Rattle.guarantees.specs.Runs.{State, Writing, Releasing, Writes, Releases, outcome, left, map_range, Within}
use Rattle.guarantees.specs.Rules.{table_entry, held_entry, FreeAt}
use Rattle.guarantees.specs.GivenBack.{ReadsZeros, GivenBack, SlicesGivenBack}
use Rattle.guarantees.proofs.Blocks.{same_address, filled_here}
use Rattle.guarantees.proofs.Cases.{Ready, Writable, write_cases, early_not_22, Releasable, release_cases}
use Rattle.guarantees.proofs.Entries.{set_entry}
use Rattle.guarantees.proofs.Claims.{claimed_stands}
use Rattle.guarantees.proofs.Releases.{released_stands, released_free}
use Rattle.guarantees.proofs.Patches.{patched-kept}
use Rattle.guarantees.proofs.MapBlocks.{deciphered_kept}
use Rattle.guarantees.proofs.Stored.{entry_range}

-- A read that is not refused, of a block that deciphers to zeros.
reads_zeros : (st : State) (i a : ℕ) → Ready (length st.device) st.held i a (geometry st.held).b
    → deciphered (geometry st.held) (key_of st.held.session i) (held_entry st.held i a) (offset_of (geometry st.held) a) st.device
    ≡ replicate (geometry st.held).b 0
    → ReadsZeros st i a
unfolding outcome read_model
reads_zeros st i a ready e =
    rw (read_refusal_served (length st.device) _ _ _ i a _ ready, e) refl

-- ---- after a release

module _ (st : State) (i σ : ℕ) (perm tape : List ℕ) (w : Releasable (length st.device) st.held i σ perm tape) where
  abbrev h : Held
  h = st.held

  abbrev ψ : ℕ
  ψ = table_entry h i σ

  abbrev place : ℕ
  place = place_of ψ perm

  abbrev after : Outcome ReleaseResult
  after = released h i σ ψ place tape

  abbrev st' : State
  st' = left st.device after

  released_zeros : (j : ℕ) → j < (geometry h).s → ReadsZeros st' i (σ * (geometry h).s + j)
  unfolding patched
  released_zeros j l =
      reads_zeros st' i a
      (record {
        stands = released_stands (length st.device) h i σ perm tape w (patched-length after.patches st.device);
        asked = record { volume = w.volume; address = digits_lt w.slice l; size = refl; mapped = inl mark };
      })
      (deciphered_unmapped (geometry h) _ _ _ st'.device (rw mark (omega (arith, w.stands.usable.allowed.slices_most))))
    where
      a : ℕ
      a = σ * (geometry h).s + j

      mark : held_entry after.held i a ≡ unmapped
      mark =
          ap (λ (τ : ℕ). table_entry after.held i τ) (digits_div σ l)
          ∙ set_entry (length st.device) h i σ unmapped w.stands w.volume w.slice

  -- The place of the slice freed is one from the start place on.
  released_room : (m v a : ℕ) (text tape' : List ℕ) (probes : ℕ)
      → (write_model m after.held v a text perm tape').answer ≡ WriteResult.Refused 22 probes → ⊥
  released_room m v a text tape' probes =
      write_cases m after.held v a text perm tape' (λ (o : Outcome WriteResult). o.answer ≡ WriteResult.Refused 22 probes → ⊥)
      (λ r e q. let z : suc r ≡ 22 = cc in early_not_22 m after.held v a text perm tape' (e ∙ z))
      (λ x l s q. let z : ◌≡◌ {A = ℕ} 21 22 = cc in omega (arith, z))
      (λ x l s q. let z : ◌≡◌ {A = ℕ} 0 1 = cc in omega (arith, z))
      (λ x u f q. let z : ◌≡◌ {A = ℕ} 9 22 = cc in omega (arith, z))
      (λ c n f q. let z : ◌≡◌ {A = ℕ} 5 22 = cc in omega (arith, z))
      (λ c all q. (all place (min-le_right h.session.start place) w.place.inside).1
      (ap (λ (φ : ℕ). get_or after.held.owners φ 0) w.place.is ∙ released_free (length st.device) h i σ perm tape w))
      (λ c n f s q. let z : ◌≡◌ {A = ℕ} 21 22 = cc in omega (arith, z))
      (λ c φ n f e s q. let z : ◌≡◌ {A = ℕ} 0 1 = cc in omega (arith, z))

  -- The one patch is the map block of the entry.
  released_stays : (p : ℕ) → (Within p (map_range (geometry h) i σ ∷ []) → ⊥) → get_or st'.device p 0 ≡ get_or st.device p 0
  released_stays p out =
      patched-kept after.patches st.device p
      (λ k. out (rw (entry_range (length st.device) h w.stands i σ unmapped _ w.volume (part_length tape h.position 16 w.enough)) at k))

-- A release that freed a slice was not refused.
record Done (n : ℕ) (h : Held) (i σ : ℕ) (perm tape : List ℕ) (φ : ℕ) (o : Outcome ReleaseResult) : Type 0 where
  able : Releasable n h i σ perm tape
  was : table_entry h i σ ≡ φ
  is : o ≡ released h i σ (table_entry h i σ) (place_of (table_entry h i σ) perm) tape

release_done : (n : ℕ) (h : Held) (i σ : ℕ) (perm tape : List ℕ) (φ : ℕ) → (release_model n h i σ perm tape).answer ≡ ReleaseResult.Freed φ
    → Done n h i σ perm tape φ (release_model n h i σ perm tape)
release_done n h i σ perm tape φ =
    release_cases n h i σ perm tape (λ (o : Outcome ReleaseResult). o.answer ≡ ReleaseResult.Freed φ → Done n h i σ perm tape φ o)
    (λ r e q. let z : ◌≡◌ {A = ℕ} 0 1 = cc in absurd (omega arith))
    (λ w q. let same : table_entry h i σ ≡ φ = cc in record { able = w; was = same; is = refl })

given_back : (st : State) (i σ : ℕ) (perm tape : List ℕ) (φ : ℕ)
    → (outcome st (Releasing i σ perm tape)).answer ≡ Releases i σ perm tape (ReleaseResult.Freed φ) → GivenBack st i σ perm tape φ
unfolding outcome
given_back st i σ perm tape φ e =
    let d = release_done (length st.device) st.held i σ perm tape φ (cc) in
    let by : (Q : Outcome ReleaseResult → Type 0) → Q (released st.held i σ _ _ tape) → Q (release_model (length st.device) st.held i σ perm tape) =
    λ Q. subst Q (sym d.is) in
    record {
      was = d.was;
      stays = λ p out.
          by (λ (o : Outcome ReleaseResult). get_or (patched o.patches st.device) p 0 ≡ get_or st.device p 0)
          (released_stays st i σ perm tape d.able p out);
      zeros = λ j l.
          by (λ (o : Outcome ReleaseResult). ReadsZeros (left st.device o) i (σ * (geometry st.held).s + j))
          (released_zeros st i σ perm tape d.able j l);
      free =
          by (λ (o : Outcome ReleaseResult). get_or o.held.owners φ 0 ≡ 0)
          (rw (← d.was) (released_free (length st.device) st.held i σ perm tape d.able));
      room = λ v a text tape' probes.
          by (λ (o : Outcome ReleaseResult).
          (outcome (left st.device o) (Writing v a text perm tape')).answer ≡ Writes v a text perm tape' (WriteResult.Refused 22 probes) → ⊥)
          (λ q. released_room st i σ perm tape d.able (length (st' st i σ perm tape d.able).device) v a text tape' probes (cc));
    }

-- ---- after a claim

module _ (st : State) (i a : ℕ) (text perm tape : List ℕ) (w : Writable (length st.device) st.held i a text perm) (ψ place : ℕ)
    (f : FreeAt st.held perm place) (q : slice_at perm place ≡ ψ) (enough : Enough (length tape) st.held.position (claim_need (geometry st.held))) where
  abbrev h₁ : Held
  h₁ = st.held

  abbrev g₁ : Geometry
  g₁ = geometry h₁

  abbrev claim : Outcome WriteResult
  claim = claimed h₁ i (slice_of g₁ a) (offset_of g₁ a) ψ place text tape

  claimed_zeros : (b : ℕ) → slice_of g₁ b ≡ slice_of g₁ a → (b ≡ a → ⊥) → ReadsZeros (left st.device claim) i b
  unfolding patched
  claimed_zeros b e ne =
      reads_zeros (left st.device claim) i b
      (record {
        stands =
            claimed_stands h₁ w.stands i (slice_of g₁ a) (offset_of g₁ a) ψ place text tape (omega (arith, f.inside, w.places))
            (patched-length claim.patches st.device);
        asked =
            record {
              volume = w.asked.volume;
              address = (div-lt_iff_lt-mul ok.slice_least).0 (rw e below);
              size = refl;
              mapped = inr (rw entry_is hψ);
            };
      })
      (ap (λ (φ : ℕ). deciphered g₁ (key_of h₁.session i) φ (offset_of g₁ b) (left st.device claim).device) entry_is
      ∙ deciphered_kept g₁ ok device₁ (overlay_length st.device _ _ ∙ w.stands.long) _ (key_of h₁.session i) _
      (part_length tape (h₁.position + g₁.b) 16 (omega (arith, enough))) i _ (omega (arith, w.asked.volume, w.stands.usable.top))
      (map_block_of_lem g₁ ok (slice_of g₁ a) (omega (arith, asked_slice w.stands w.asked.volume w.asked.address)))
      (key_of h₁.session i) ψ (offset_of g₁ b)
      ∙ filled_here g₁ (key_of h₁.session i) ivs text (offset_of g₁ a) ivsl w.asked.size ok
      st.device w.stands.long ψ hψ (offset_of g₁ b) (offset_of_lt g₁ ok b)
      ∙ rw (ne_eqb (offset_of g₁ b) (offset_of g₁ a) (λ k. ne (same_address g₁ b a e k))) refl)
    where
      ok : Allowed g₁
      ok = w.stands.usable.allowed

      ivs : List ℕ
      ivs = part h₁.position g₁.b tape

      ivsl : length ivs ≡ g₁.b
      ivsl = part_length tape h₁.position g₁.b (omega (arith, enough))

      -- The device with the slice, before the map block is stored.
      device₁ : List ℕ
      device₁ = overlay st.device (slice_start g₁ ψ) (claimed_bytes g₁.b g₁.s (key_of h₁.session i) ivs (offset_of g₁ a) text)

      below : slice_of g₁ a < count_of h₁.session i
      below = (asked_slice w.stands w.asked.volume w.asked.address).0

      hψ : ψ < g₁.p
      hψ = rw q at f.slice

      entry_is : held_entry claim.held i b ≡ ψ
      entry_is =
          ap (λ (τ : ℕ). table_entry claim.held i τ) e ∙ set_entry (length st.device) h₁ i (slice_of g₁ a) ψ w.stands w.asked.volume below

claim_shows : (st : State) (i a : ℕ) (text perm tape : List ℕ) (ψ probes : ℕ)
    → (write_model (length st.device) st.held i a text perm tape).answer ≡ WriteResult.Served (Claimed ψ) probes
    → (b : ℕ) → slice_of (geometry st.held) b ≡ slice_of (geometry st.held) a → (b ≡ a → ⊥)
    → ReadsZeros (left st.device (write_model (length st.device) st.held i a text perm tape)) i b
claim_shows st i a text perm tape ψ probes =
    write_cases (length st.device) st.held i a text perm tape
    (λ (o : Outcome WriteResult). o.answer ≡ WriteResult.Served (Claimed ψ) probes
    → (b : ℕ) → slice_of (geometry st.held) b ≡ slice_of (geometry st.held) a → (b ≡ a → ⊥) → ReadsZeros (left st.device o) i b)
    (λ r e q. let z : ◌≡◌ {A = ℕ} 0 1 = cc in absurd (omega arith))
    (λ w l s q. let z : ◌≡◌ {A = ℕ} 0 1 = cc in absurd (omega arith))
    (λ w l s q. let z : ◌≡◌ {A = ℕ} 0 1 = cc in absurd (omega arith))
    (λ w u f q. let z : ◌≡◌ {A = ℕ} 0 1 = cc in absurd (omega arith))
    (λ c n f q. let z : ◌≡◌ {A = ℕ} 0 1 = cc in absurd (omega arith))
    (λ c f q. let z : ◌≡◌ {A = ℕ} 0 1 = cc in absurd (omega arith))
    (λ c n f s q. let z : ◌≡◌ {A = ℕ} 0 1 = cc in absurd (omega arith))
    (λ c φ n f e s q. claimed_zeros st i a text perm tape c.writable φ n f e s)

pub slices_given_back : SlicesGivenBack
unfolding outcome
slices_given_back = record { released = given_back; claimed = λ st i a text perm tape ψ probes e. claim_shows st i a text perm tape ψ probes (cc) }
