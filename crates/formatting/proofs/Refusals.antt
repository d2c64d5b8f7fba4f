-- The refusals of a formatting, row by row, as their tests find them. Assumes nothing.
use Prim.Native.Nat.{ℕ, ◌*◌, ◌≤◌, ◌<◌}
use mathlib.Core.Path.{◌≡◌, sym, ap, ◌∙◌}
use mathlib.Core.Bool.{Bool, true, false}
use mathlib.Core.List.{List}
use borrow.Author.Tests.{eq-eqb, ne_eqb, lt-ltb, le-ltb}
use lib.ListN.{length}
use Rattle.refusals.specs.declared.Refusal.{Refusal}
use Rattle.refusals.specs.Numbers.{refusal_number, refuse}
use Rattle.refusals.proofs.Positive.{refusal_positive}
use Rattle.model.specs.declared.Geometry.{Geometry}
use Rattle.model.specs.Parts.{part}
use Rattle.model.specs.Geometry.{Allowed, bad_geometry, any_bad_count, device_length}
use Rattle.model.specs.Session.{short}
use Rattle.model.specs.Format.{format_need, made_cell, lower_opens, lower_refusal, format_refusal}
use Rattle.model.proofs.Tests.{bad_geometry_none, bad_geometry_allowed}
use Rattle.model.proofs.Requests.{Formattable, short_false, any_bad_count_none, format_refusal_none, format_refusal_rest}
use Rattle.model.proofs.Order.{bad_geometry-first, format_refusal-first}

pub allowed : (g : Geometry) → 0 ≡ bad_geometry 1 g 0 → Allowed g
allowed g tested = (bad_geometry_none 0 g 0 (sym tested)).0

module _ (device : ℕ) (g : Geometry) (n keys : ℕ) (counts : List ℕ) (tape position : ℕ) where
  -- The refusal of the call, before any key is tried.
  abbrev refusal : ℕ
  refusal = format_refusal device g n keys counts tape position 0

  pub wrong_geometry : (r : Refusal) → refusal_number r ≡ bad_geometry 1 g 0 → refusal_number r ≡ refusal
  unfolding format_refusal
  wrong_geometry r e = e ∙ sym (bad_geometry-first 1 g (rw e at (refusal_positive r)) _)

  module _ (tested : 0 ≡ bad_geometry 1 g 0) where
    passed : (rest : ℕ) → bad_geometry 1 g rest ≡ rest
    passed rest = bad_geometry_allowed 1 g rest (allowed g tested)

    pub wrong_counts : (length counts ≡ n → ⊥) → 1 ≡ refusal
    unfolding format_refusal refuse
    wrong_counts h = sym (passed _ ∙ rw (ne_eqb (length counts) _ h))

    module _ (each : length counts ≡ n) {b : Bool} (any : b ≡ any_bad_count g.p counts n) where
      pub bad_count_lem : b ≡ true → 1 ≡ refusal
      unfolding format_refusal refuse
      bad_count_lem h = sym (passed _ ∙ rw (eq-eqb (length counts), sym any ∙ h))

      module _ (none : b ≡ false) {l : ℕ} (long : l ≡ device_length g) where
        pub wrong_device : (device ≡ l → ⊥) → 2 ≡ refusal
        unfolding format_refusal refuse
        wrong_device h = sym (passed _ ∙ rw (eq-eqb (length counts), sym any ∙ none, ne_eqb device _ (λ e. h (e ∙ sym long))))

        module _ (hd : device ≡ l) where
          whole : device ≡ device_length g
          whole = hd ∙ long

          pub no_key : n < 1 → 23 ≡ refusal
          unfolding format_refusal refuse
          no_key h = sym (passed _ ∙ rw (eq-eqb (length counts), sym any ∙ none, eq-eqb device _ whole, lt-ltb n 1))

          module _ (least : 1 ≤ n) where
            pub many_keys : 15 < n → 23 ≡ refusal
            unfolding format_refusal refuse
            many_keys h = sym (passed _ ∙ rw (eq-eqb (length counts), sym any ∙ none, eq-eqb device _ whole, le-ltb n 1, lt-ltb 15 n))

            module _ (most : n ≤ 15) where
              pub wrong_keys : (keys ≡ 32 * n → ⊥) → 3 ≡ refusal
              unfolding format_refusal refuse
              wrong_keys h =
                  sym (passed _ ∙ rw (eq-eqb (length counts), sym any ∙ none, eq-eqb device _ whole, le-ltb n 1, le-ltb 15 n, ne_eqb keys))

              module _ (hk : keys ≡ 32 * n) {need : ℕ} {s : Bool} (needs : need ≡ format_need g n) (left : s ≡ short tape position need) where
                is_short : {t : Bool} → s ≡ t → short tape position (format_need g n) ≡ t
                is_short h = ap (short tape position) (sym needs) ∙ sym left ∙ h

                pub tape_short : s ≡ true → 21 ≡ refusal
                unfolding format_refusal refuse
                tape_short h =
                    sym
                    (passed _
                    ∙ rw (eq-eqb (length counts), sym any ∙ none, eq-eqb device _ whole, le-ltb n 1, le-ltb 15 n, eq-eqb keys, is_short h))

                pub lengths_right : s ≡ false → 0 ≡ refusal
                lengths_right h =
                    sym
                    (format_refusal_rest _ _ _ _ _ _ _
                    (record {
                      allowed = allowed g tested;
                      counted = (each, any_bad_count_none _ _ _ (sym any ∙ none));
                      long = whole;
                      count = (least, most);
                      keyed = hk;
                      enough = short_false _ _ _ (is_short h);
                    })
                    0)

  -- ---- then the keys are tried

  pub wrong_lengths : (r : Refusal) → refusal_number r ≡ refusal → (rest : ℕ) → refusal_number r ≡ format_refusal device g n keys counts tape position rest
  wrong_lengths r e rest = e ∙ sym (format_refusal-first _ _ _ _ _ _ _ (rw e at (refusal_positive r)) rest)

  pub formattable : 0 ≡ refusal → Formattable device g n keys counts tape position
  formattable e = format_refusal_none _ _ _ _ _ _ _ 0 (sym e)

pub keys_tried : (device : ℕ) (g : Geometry) (n : ℕ) (keys counts tape : List ℕ) (position : ℕ) {need : ℕ} {drawn : List ℕ} {b t : Bool}
    → 0 ≡ format_refusal device g n (length keys) counts (length tape) position 0 → need ≡ format_need g n → drawn ≡ part position need tape
    → b ≡ lower_opens keys (made_cell g n keys drawn) n → b ≡ t
    → refuse t 24 0
    ≡ format_refusal device g n (length keys) counts (length tape) position (lower_refusal g n keys (part position (format_need g n) tape))
keys_tried device g n keys counts tape position e needs draw lower h =
    let bytes = draw ∙ ap (λ (need : ℕ). part position need tape) needs in
    let opens = ap (λ (drawn : List ℕ). lower_opens keys (made_cell g n keys drawn) n) bytes in
    sym
    (format_refusal_rest _ _ _ _ _ _ _ (formattable _ _ _ _ _ _ _ e) _ ∙ ap (λ (b : Bool). refuse b 24 0) (sym opens ∙ sym lower ∙ h))
