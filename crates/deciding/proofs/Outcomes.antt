-- What is decided on a write, by the tests that the code makes. Assumes nothing.
use Prim.Native.Nat.{ℕ, ◌≤◌, ◌<◌}
use mathlib.Core.Path.{◌≡◌, refl, ◌∙◌}
use mathlib.Core.Bool.{true, false}
use mathlib.Core.List.{List}
use native.Mathlib.Omega.{arith}
use lib.ListN.{length}
use borrow.Author.Tests.{lt-ltb, le-ltb}
use Rattle.refusals.specs.Numbers.{refusal_number}
use Rattle.refusals.specs.declared.Refusal.{Refusal}
use Rattle.refusals.specs.declared.Refusal.TheVariants.{TapeShort, BadPermutation, BadEntry}
use Rattle.refusals.proofs.Positive.{refusal_positive}
use Rattle.model.specs.declared.Geometry.{Geometry}
use Rattle.model.specs.declared.Session.{Session}
use Rattle.model.specs.declared.Search.{Search}
use Rattle.model.specs.declared.Search.TheVariants.{Free, Bad}
use Rattle.model.specs.Session.{Held, held, slice_of, offset_of, entry_of, short}
use Rattle.model.specs.Search.{first_free}
use Rattle.model.specs.Maps.{bad_in_block}
use Rattle.model.specs.Write.{probes_to, rewrite_outcome, claim_need, claim_outcome, write_refusal, write_model}
use Rattle.model.proofs.Requests.{Writable, short_false}
use Rattle.model.proofs.Order.{unless_refused_lem}
use Rattle.model.proofs.Searches.{first_free_free, first_free_bad}
use Rattle.deciding.specs.declared.Decision.{Decision}
use Rattle.deciding.specs.declared.Decision.TheVariants.{Refused, Full, Rewrite, Claim}
use Rattle.deciding.specs.Decided.{Decided, Looked}

-- ---- the decision

module _ (device : ℕ) (maps owners : List ℕ) (position : ℕ) (s : Session) (i a len : ℕ) (perm : List ℕ) (tape : ℕ) where
  abbrev lent : Held
  lent = held maps owners position s

  abbrev g : Geometry
  g = s.geometry

  -- A decision that is right for every text and tape of these lengths.
  abbrev Right : Decision → Type 0
  Right d = (text bytes : List ℕ) → length text ≡ len → length bytes ≡ tape → Decided device lent i a text perm bytes d

  pub refused_first : (r : Refusal) → refusal_number r ≡ write_refusal device maps owners s i a len (length perm) → Right (Refused r 0)
  unfolding write_model
  refused_first r e text bytes t b = rw (t, ← e) (unless_refused_lem (refusal_number r) _ _ (refusal_positive r))

  module _ (w : Writable device maps owners s i a len (length perm)) where
    -- ---- a mapped block

    module _ (x : ℕ) (e : x ≡ entry_of maps g i a) (below : x < g.p) where
      mapped : (text bytes : List ℕ) → length text ≡ len
          → write_model device lent i a text perm bytes ≡ rewrite_outcome lent i x (offset_of g a) text bytes
      unfolding write_model
      mapped text bytes t = rw (t, w.none, ← e, lt-ltb x g.p below)

      pub rewrite_short : short tape position 16 ≡ true → Right (Refused TapeShort 0)
      rewrite_short q text bytes t b = mapped text bytes t ∙ rw (b, q)

      pub rewrite_served : short tape position 16 ≡ false → Right (Rewrite x)
      rewrite_served q text bytes t b =
          record {
            outcome = mapped text bytes t ∙ rw (b, q);
            none = rw t w.none;
            slice = below;
            enough = rw b (short_false _ _ _ q);
          }

    -- ---- a claim

    -- A place that the search ends at is one of the permutation's, from the start place on.
    pub bad_place : (place : ℕ) → first_free owners g.p s.start perm ≡ Bad place → Looked s place
    bad_place place q =
        let f = first_free_bad owners g.p perm s.start place q in
        record { from = f.1; inside = omega (arith, f.0, w.places) }

    pub free_place : (ψ place : ℕ) → first_free owners g.p s.start perm ≡ Free ψ place → Looked s place
    free_place ψ place q =
        let f = first_free_free owners g.p perm s.start ψ place q in
        record { from = f.2; inside = omega (arith, f.1, w.places) }

    module _ (x : ℕ) (e : x ≡ entry_of maps g i a) (past : g.p ≤ x) where
      pub claim_block : bad_in_block maps s i (slice_of g a) ≡ true → Right (Refused BadEntry 0)
      unfolding write_model
      claim_block q text bytes t b = rw (t, w.none, ← e, le-ltb x g.p past, q)

      module _ (fine : bad_in_block maps s i (slice_of g a) ≡ false) (found : Search) (f : first_free owners g.p s.start perm ≡ found) where
        unmapped_searched : (text bytes : List ℕ) → length text ≡ len
            → write_model device lent i a text perm bytes ≡ claim_outcome lent i (slice_of g a) (offset_of g a) text bytes found
        unfolding write_model
        unmapped_searched text bytes t = rw (t, w.none, ← e, le-ltb x g.p past, fine, f)

        pub claim_bad : (place : ℕ) → found ≡ Bad place → (n : ℕ) → n ≡ probes_to s place → Right (Refused BadPermutation n)
        claim_bad place q n looks text bytes t b = unmapped_searched text bytes t ∙ rw (q, looks) refl

        pub claim_full : found ≡ Search.Full → Right Full
        claim_full q text bytes t b = (unmapped_searched text bytes t ∙ rw q refl, w.stands.usable.place)

        module _ (ψ place : ℕ) (q : found ≡ Free ψ place) where
          pub claim_short : short tape position (claim_need g) ≡ true → (n : ℕ) → n ≡ probes_to s place → Right (Refused TapeShort n)
          claim_short z n looks text bytes t b = unmapped_searched text bytes t ∙ rw (q, b, z, looks) refl

          pub claim_served : short tape position (claim_need g) ≡ false → Right (Claim ψ place)
          claim_served z text bytes t b = (
            record {
              outcome = unmapped_searched text bytes t ∙ rw (q, b, z) refl;
              none = rw t w.none;
              slice = (first_free_free owners g.p perm s.start ψ place (f ∙ q)).0;
              enough = rw b (short_false _ _ _ z);
            },
            free_place ψ place (f ∙ q),
          )
