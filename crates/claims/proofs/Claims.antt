-- What a refused line leaves and answers, and what a frame 03 does, by what the engine decided. Assumes nothing.
use Prim.Native.Nat.{ℕ, ◌+◌, ◌-◌, ◌*◌, ◌≤◌, ◌<◌}
use mathlib.Core.Path.{◌≡◌, refl, sym, ◌∙◌}
use mathlib.Core.Bool.{true}
use mathlib.Core.List.{List, [], ◌∷◌}
use Rattle.std.specs.Prelude.{Ok}
use native.Mathlib.Nat.{add-zero}
use native.Mathlib.Omega.{arith}
use lib.ListN.{length, set, take, get_or-replicate, length-take, length-replicate}
use lib.Seq.{take-set-lt}
use borrow.Author.Tests.{eq-eqb, ne_eqb, lt-ltb, le-ltb}
use Rattle.refusals.specs.Numbers.{refusal_number, refuse}
use Rattle.refusals.specs.declared.Refusal.{Refusal}
use Rattle.refusals.specs.declared.Refusal.TheVariants.{TableLength, NotOpen}
use Rattle.refusals.proofs.Positive.{refusal_positive}
use Rattle.model.specs.declared.Geometry.{Geometry}
use Rattle.model.specs.Geometry.{Allowed, bad_geometry, device_length}
use Rattle.model.specs.Session.{held, standing, idle, slot, slice_of, offset_of}
use Rattle.model.specs.Conditions.{CountsFit}
use Rattle.model.specs.Write.{Refused, claim_need, rewritten, claimed, full, write_refusal}
use Rattle.model.proofs.Tests.{bad_geometry_allowed}
use Rattle.model.proofs.Requests.{any_bad_count_fits, write_refusal_none, asked-slot}
use Rattle.model.proofs.Order.{bad_geometry-first}
use Rattle.model.specs.declared.Session.{Session}
use Rattle.deciding.specs.declared.Decision.{Decision}
use Rattle.deciding.specs.declared.Decision.TheVariants.{Claim}
use Rattle.deciding.specs.Decided.{Decided}
use Rattle.deciding.proofs.Outcomes.{refused_first}
use Rattle.lines.specs.declared.WalkReply.{WalkReply}
use Rattle.lines.specs.Answers.{answer_bytes}
use Rattle.claims.specs.declared.Walk.{Walk}
use Rattle.claims.specs.State.{State, all_open, zeros, endless, engine_write}
use Rattle.claims.specs.Claims.{Stepped, refused_by, written}
use Rattle.claims.specs.Answers.{state_of, Decides, Answers, moved, Serves}

-- The text and the tape of a write stay shut: only their lengths count.
pub zeros-length : (n : ℕ) → length (zeros n) ≡ n
unfolding zeros
zeros-length n = length-replicate n 0

-- Each volume of a walk has N = P, which is allowed (document 02, P4).
pub all_open-counted : (g : Geometry) (start : ℕ) → Allowed g → CountsFit g.p (all_open g start).counts 15
all_open-counted g start ok i l =
    let e = get_or-replicate 15 i g.p 0 l in
    (omega (arith, e, ok.slices_least), omega (arith, e))

-- A line that is refused leaves the walk as it was, and answers the refusal's number.
pub refused_answers : {s : Stepped} (w : Walk) (r : Refusal) → s ≡ refused_by (state_of w) (refusal_number r)
    → Answers s (state_of w) (refusal_number r ∷ [])
refused_answers w r e = rw e (record { left = refl; answered = refl })

module _ (w : Walk) (i a : ℕ) where
  abbrev g : Geometry
  g = w.geometry

  abbrev state : State
  state = state_of w

  -- ---- what was decided

  -- A decision for every text and tape of these lengths is one for zeros.
  pub decides : {device : ℕ} {s : Session} (d : Decision) → w.shuffled ≡ true → device ≡ device_length g → s ≡ all_open g w.start
      → ((text tape : List ℕ) → length text ≡ g.b → length tape ≡ 4096 * 4112
      → Decided device (held (take (15 * g.p) w.maps) (take g.p w.owners) w.position s) i a text (take g.p w.perm) tape d)
      → Decides state i a d
  decides d shuffled e f decided =
      rw shuffled (rw (← e, ← f) (decided (zeros g.b) endless (zeros-length g.b) (zeros-length (4096 * 4112))))

  -- A claim is asked of an entry in the table, of a volume that is open.
  pub claim_asked : (ψ place : ℕ) → Decides state i a (Claim ψ place) → 15 * g.p ≤ length w.maps → (slot g i (slice_of g a) < 15 * g.p) × (i ≤ 14)
  claim_asked ψ place claims long =
      let fit = write_refusal_none _ _ _ _ _ _ _ _ claims.0.none in
      (rw fit.stands.tables.0 at (asked-slot fit.stands fit.asked), fit.asked.volume)

  pub refusal_answers : (r : Refusal) (probes : ℕ) → engine_write state i a ≡ idle state.held (Refused (refusal_number r) probes)
      → Answers (written state i a) state (refusal_number r ∷ [])
  refusal_answers r probes e = refused_answers w r (rw e refl)

  -- No place from the start place on is free: the start place becomes P.
  pub full_answers : engine_write state i a ≡ full state.held → Answers (written state i a) (state_of (moved w w.position g.p)) (22 ∷ [])
  full_answers e = rw e (record { left = refl; answered = refl })

  module _ (ψ : ℕ) (w' : Walk) (said : WalkReply) where
    pub rewrite_answers : engine_write state i a ≡ rewritten state.held i ψ (offset_of g a) (zeros g.b) endless
        → Serves w ψ (offset_of g a) 0 16 w' said → Answers (written state i a) (state_of w') (answer_bytes (Ok said))
    rewrite_answers e s = rw (s.left, s.answered, e, add-zero w.start) (record { left = refl; answered = refl })

    -- The walk that is served has its tables set already.
    pub claim_answers : (place drawn : ℕ) (maps owners : List ℕ)
        → engine_write state i a ≡ claimed state.held i (slice_of g a) (offset_of g a) ψ place (zeros g.b) endless
        → slot g i (slice_of g a) < 15 * g.p → ψ < g.p → w.start ≤ place
        → maps ≡ set w.maps (slot g i (slice_of g a)) ψ → owners ≡ set w.owners ψ (i + 1)
        → drawn ≡ claim_need g → Serves (record w { maps = maps; owners = owners }) ψ (offset_of g a) (place + 1 - w.start) drawn w' said
        → Answers (written state i a) (state_of w') (answer_bytes (Ok said))
    claim_answers place drawn maps owners e inside below from m o n s =
        let next : w.start + (place + 1 - w.start) ≡ place + 1 = omega arith in
        rw (
          s.left,
          s.answered,
          m,
          o,
          n,
          e,
          take-set-lt _ w.maps _ ψ inside,
          take-set-lt _ w.owners ψ (i + 1) below,
          next,
        )
        (record { left = refl; answered = refl })

  -- ---- numbers that no walk has

  module _ (shuffled : w.shuffled ≡ true) where
    abbrev Refuses : ℕ → Type 0
    Refuses n =
        n ≡ write_refusal (device_length g) state.held.maps state.held.owners state.held.session i a g.b (length (take g.p w.perm))

    first_answers : (r : Refusal) → Refuses (refusal_number r) → Answers (written state i a) state (refusal_number r ∷ [])
    first_answers r e =
        refusal_answers r 0
        (rw shuffled
        (refused_first (device_length g) _ _ w.position state.held.session i a g.b _ (4096 * 4112) r e (zeros g.b) endless
        (zeros-length g.b) (zeros-length (4096 * 4112))))

    pub geometry_answers : (r : Refusal) → refusal_number r ≡ bad_geometry 20 g 0
        → Answers (written state i a) state (refusal_number r ∷ [])
    unfolding write_refusal standing refuse
    geometry_answers r e = first_answers r (e ∙ sym (bad_geometry-first 20 g (rw e at (refusal_positive r)) _))

    pub place_answers : Allowed g → g.p < w.start → Answers (written state i a) state (20 ∷ [])
    unfolding write_refusal standing refuse
    place_answers ok above = first_answers NotOpen (sym (bad_geometry_allowed 20 g _ ok ∙ rw (lt-ltb g.p w.start above) refl))

    pub length_answers : Allowed g → w.start ≤ g.p → length w.maps ≡ 3840 → 256 < g.p
        → Answers (written state i a) state (4 ∷ [])
    unfolding write_refusal standing refuse
    length_answers ok inside long past =
        let short : length (take (15 * g.p) w.maps) ≡ 15 * g.p → ⊥ = λ e. omega (arith, e, simp length-take at e) in
        let device = eq-eqb (device_length g) _ refl in
        let counted = any_bad_count_fits g.p (all_open g w.start).counts 15 (all_open-counted g w.start ok) in
        first_answers TableLength
        (sym (bad_geometry_allowed 20 g _ ok ∙ rw (le-ltb g.p w.start inside, counted, device, ne_eqb _ _ short) refl))
