-- What a frame leads to, by the tests that the code makes. Assumes nothing.
use Prim.Native.Nat.{ℕ, ◌+◌, ◌*◌, ◌≤◌, ◌<◌}
use mathlib.Core.Path.{◌≡◌, refl, ap}
use mathlib.Core.Bool.{true, false, ◌&&◌}
use mathlib.Core.List.{List, [], ◌∷◌}
use native.Mathlib.Omega.{arith}
use borrow.Author.Tests.{lt-ltb, le-ltb, le-leb, lt-leb, eq-eqb, ne_eqb}
use lib.ListN.{length, get_or, replicate}
use Rattle.refusals.specs.declared.Refusal.{Refusal}
use Rattle.refusals.specs.Numbers.{refuse, refusal_number}
use Rattle.refusals.proofs.Positive.{refusal_positive}
use Rattle.block.specs.Bytes.{number}
use Rattle.model.specs.declared.Geometry.{Geometry}
use Rattle.model.specs.Parts.{part}
use Rattle.model.specs.Geometry.{bad_geometry}
use Rattle.model.specs.Session.{geometry, unmapped}
use Rattle.model.specs.Permutation.{missing}
use Rattle.model.proofs.Parts.{take-replicate}
use Rattle.model.proofs.Order.{unless_refused_lem}
use Rattle.lines.specs.Hexadecimal.{Bytes}
use Rattle.claims.specs.declared.Walk.{Walk}
use Rattle.claims.specs.State.{State, empty}
use Rattle.claims.specs.Claims.{Stepped, refused_by, written}
use Rattle.claims.specs.Answers.{state_of, Answers}
use Rattle.frames.specs.Frames.{accepted, size_of, on_size, pairs, on_order, counting, on_claim, on_kind, on_frame}

-- ---- answers

-- A line that is accepted answers 00.
pub accepted-answers : {s : Stepped} {left w : State} → left ≡ w → s ≡ accepted w → Answers s left (0 ∷ [])
accepted-answers e q = rw (q, e) (record { left = refl; answered = refl })

-- ---- frame 01

module _ (w : State) (fields : List ℕ) where
  pub on_size_wrong_length : (length fields ≡ 6 → ⊥) → on_size w fields ≡ refused_by w 14
  unfolding on_size refuse
  on_size_wrong_length h = rw (ne_eqb (length fields) 6 h)

  module _ (six : length fields ≡ 6) where
    pub on_size_again : w.sized ≡ true → on_size w fields ≡ refused_by w 14
    unfolding on_size refuse
    on_size_again s = rw (six, s)

    module _ (first : w.sized ≡ false) (g : Geometry) (read : g ≡ size_of fields) where
      pub on_size_large : 256 < g.p → on_size w fields ≡ refused_by w 1
      unfolding on_size refuse
      on_size_large h = rw (six, first, lt-ltb 256 (size_of fields).p (rw read at h))

      pub on_size_bad : g.p ≤ 256 → (r : Refusal) → refusal_number r ≡ bad_geometry 1 g 0 → on_size w fields ≡ refused_by w (refusal_number r)
      unfolding on_size refuse
      on_size_bad h r e =
          rw (six, first, le-ltb 256 (size_of fields).p (rw read at h), ← rw read at e) (unless_refused_lem (refusal_number r) _ _ (refusal_positive r))

      pub on_size_accepted : g.p ≤ 256 → bad_geometry 1 g 0 ≡ 0
          → on_size w fields ≡ accepted (record { sized = true; shuffled = false; counted = w.counted; perm = []; held = empty g })
      unfolding on_size refuse
      on_size_accepted h e = rw (read, six, first, le-ltb 256 (size_of fields).p (rw read at h), rw read at e)

-- The state of a walk whose tables are cleared, which have room for the geometry.
pub state_of_empty : (g : Geometry) (counted : ℕ) (maps owners perm : List ℕ) (m n : ℕ) → maps ≡ replicate m unmapped → owners ≡ replicate n 0
    → 15 * g.p ≤ m → g.p ≤ n
    → state_of (record { geometry = g; sized = true; shuffled = false; counted = counted; position = 0; start = 0; maps = maps; owners = owners; perm = perm })
    ≡ record { sized = true; shuffled = false; counted = counted; perm = []; held = empty g }
state_of_empty g counted maps owners perm m n e f l k = rw (e, f, take-replicate (15 * g.p) m unmapped l, take-replicate g.p n 0 k)

-- ---- frame 02

module _ (w : State) (fields : List ℕ) where
  abbrev slices : ℕ
  slices = (geometry w.held).p

  pub on_order_again : w.shuffled ≡ true → on_order w fields ≡ refused_by w 14
  unfolding on_order refuse
  on_order_again s = rw s

  module _ (first : w.shuffled ≡ false) where
    pub on_order_early : w.sized ≡ false → on_order w fields ≡ refused_by w 20
    unfolding on_order refuse
    on_order_early s = rw (first, s)

    module _ (sized : w.sized ≡ true) where
      pub on_order_wrong_length : (length fields ≡ 2 * slices → ⊥) → on_order w fields ≡ refused_by w 5
      unfolding on_order refuse
      on_order_wrong_length h = rw (first, sized, ne_eqb (length fields) (2 * slices) h)

      module _ (long : length fields ≡ 2 * slices) where
        pub on_order_missing : missing slices (pairs fields) ≡ true → on_order w fields ≡ refused_by w 5
        unfolding on_order refuse
        on_order_missing h = rw (first, sized, eq-eqb (length fields) (2 * slices) long, h)

        pub on_order_accepted : missing slices (pairs fields) ≡ false
            → on_order w fields ≡ accepted (record w { shuffled = true; perm = pairs fields })
        unfolding on_order refuse
        on_order_accepted h = rw (first, sized, eq-eqb (length fields) (2 * slices) long, h)

-- Before a frame 02 is accepted, what stands in the permutation does not matter.
pub state_of_unshuffled : (w : Walk) (perm : List ℕ) → w.shuffled ≡ false → state_of w ≡ state_of (record w { perm = perm })
state_of_unshuffled w perm e = rw e

-- ---- frame 03

module _ (w : State) (fields : List ℕ) where
  pub on_claim_length : (length fields ≡ 5 → ⊥) → on_claim w fields ≡ refused_by w 14
  unfolding on_claim refuse
  on_claim_length n = rw (ne_eqb _ _ n)

  module _ (l : length fields ≡ 5) where
    pub on_claim_late : 4096 ≤ w.counted → on_claim w fields ≡ refused_by w 14
    unfolding on_claim refuse
    on_claim_late m = rw (eq-eqb _ _ l, le-leb _ _ m)

    module _ (few : w.counted < 4096) where
      pub on_claim_early : (w.sized && w.shuffled) ≡ false → on_claim w fields ≡ refused_by (counting w) 20
      unfolding on_claim refuse
      on_claim_early e = rw (eq-eqb _ _ l, lt-leb _ _ few, e)

      pub on_claim_write : (w.sized && w.shuffled) ≡ true → on_claim w fields ≡ written (counting w) (get_or fields 0 0) (number (part 1 4 fields))
      unfolding on_claim refuse
      on_claim_write e = rw (eq-eqb _ _ l, lt-leb _ _ few, e)

-- ---- any frame

module _ (w : State) where
  pub on_frame_empty : (bytes : List ℕ) → length bytes ≡ 0 → on_frame w (Bytes bytes) ≡ refused_by w 14
  unfolding on_frame
  on_frame_empty [] e = refl
  on_frame_empty (kind ∷ fields) e = absurd (omega arith)

  pub on_frame_kind : {bytes : List ℕ} (kind : ℕ) (fields : List ℕ) → bytes ≡ kind ∷ fields → length bytes ≤ 513
      → on_frame w (Bytes bytes) ≡ on_kind w kind fields
  unfolding on_frame
  on_frame_kind kind fields e l = rw (e, le-ltb 513 (1 + length fields) (omega (arith, ap length e))) refl
