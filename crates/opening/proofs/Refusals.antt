-- Laws of refused openings: the rows 1 to 5 as their tests find them. Assumes nothing.
use Prim.Native.Nat.{ℕ, ◌*◌}
use mathlib.Core.Path.{◌≡◌, sym, ◌∙◌}
use mathlib.Core.List.{List}
use borrow.Author.Tests.{eq-eqb, ne_eqb}
use Rattle.refusals.specs.declared.Refusal.{Refusal}
use Rattle.refusals.specs.Numbers.{refusal_number, refuse}
use Rattle.refusals.proofs.Positive.{refusal_positive}
use Rattle.refusals.proofs.Refuse.{refuse_false}
use Rattle.model.specs.declared.Geometry.{Geometry}
use Rattle.model.specs.Geometry.{Allowed, bad_geometry, device_length}
use Rattle.model.specs.Permutation.{bad_permutation}
use Rattle.model.specs.Opening.{open_refusal}
use Rattle.model.proofs.Tests.{equal_passes, bad_geometry_none, bad_geometry_allowed}
use Rattle.model.proofs.Order.{bad_geometry-first}

pub allowed : (g : Geometry) → 0 ≡ bad_geometry 1 g 0 → Allowed g
allowed g tested = (bad_geometry_none 0 g 0 (sym tested)).0

module _ (g : Geometry) (device key maps owners : ℕ) (perm : List ℕ) where
  -- The refusal of the call.
  abbrev refusal : ℕ
  refusal = open_refusal g device key maps owners perm

  pub wrong_geometry : (r : Refusal) → refusal_number r ≡ bad_geometry 1 g 0 → refusal_number r ≡ refusal
  unfolding open_refusal
  wrong_geometry r e = e ∙ sym (bad_geometry-first 1 g (rw e at (refusal_positive r)) _)

  module _ (tested : 0 ≡ bad_geometry 1 g 0) {l : ℕ} (long : l ≡ device_length g) where
    passed : (rest : ℕ) → bad_geometry 1 g rest ≡ rest
    passed rest = bad_geometry_allowed 1 g rest (allowed g tested)

    pub wrong_device : (device ≡ l → ⊥) → 2 ≡ refusal
    unfolding open_refusal refuse
    wrong_device h = sym (passed _ ∙ rw (ne_eqb device _ (λ e. h (e ∙ sym long))))

    module _ (hd : device ≡ l) where
      whole : device ≡ device_length g
      whole = hd ∙ long

      pub wrong_key : (key ≡ 32 → ⊥) → 3 ≡ refusal
      unfolding open_refusal refuse
      wrong_key h = sym (passed _ ∙ rw (eq-eqb device _ whole, ne_eqb key))

      module _ (hk : key ≡ 32) where
        pub wrong_maps : (maps ≡ 15 * g.p → ⊥) → 4 ≡ refusal
        unfolding open_refusal refuse
        wrong_maps h = sym (passed _ ∙ rw (eq-eqb device _ whole, eq-eqb key, ne_eqb maps))

        module _ (hm : maps ≡ 15 * g.p) where
          pub wrong_owners : (owners ≡ g.p → ⊥) → 4 ≡ refusal
          unfolding open_refusal refuse
          wrong_owners h = sym (passed _ ∙ rw (eq-eqb device _ whole, eq-eqb key, eq-eqb maps, ne_eqb owners))

          module _ (ho : owners ≡ g.p) where
            -- The permutation speaks.
            pub lengths_right : bad_permutation g.p perm 0 ≡ refusal
            unfolding open_refusal
            lengths_right =
                sym
                (passed _
                ∙ refuse_false _ _ _ (equal_passes _ _ whole)
                ∙ refuse_false _ _ _ (equal_passes _ _ hk)
                ∙ refuse_false _ _ _ (equal_passes _ _ hm)
                ∙ refuse_false _ _ _ (equal_passes _ _ ho))
