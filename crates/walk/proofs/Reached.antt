-- The states that a walk reaches, and the answers that its lines get. Assumes nothing.
use Prim.Native.Nat.{ℕ, zero, suc, ◌+◌, ◌*◌, ◌/◌, ◌^◌, ◌≤◌, ◌<◌}
use mathlib.Core.Path.{◌≡◌, refl, ◌∙◌}
use mathlib.Core.Bool.{Bool, true, false, not, ◌&&◌, and-eq-true_iff, false≢true}
use mathlib.Core.Logic.{◌⊎◌, inl, inr, ⊎_elim}
use mathlib.Core.List.{List, [], ◌∷◌}
use native.Mathlib.Nat.{div-lt_iff_lt-mul, le_refl}
use native.Mathlib.Omega.{arith}
use lib.Dec.{ltb, eqb, lit≤}
use lib.ListN.{length, get_or, set, replicate, get_or-replicate, length-set, length-replicate}
use borrow.Author.Tests.{leb-false, eqb-true, not-false}
use Rattle.refusals.specs.Numbers.{refuse}
use Rattle.block.specs.Bytes.{number}
use Rattle.model.specs.Parts.{part}
use Rattle.model.specs.declared.Geometry.{Geometry}
use Rattle.model.specs.declared.Session.{Session}
use Rattle.model.specs.Geometry.{Allowed, bad_geometry, device_length, block_start}
use Rattle.model.specs.Session.{Held, geometry, offset_of, unmapped, starting_at, unless}
use Rattle.model.specs.Permutation.{member}
use Rattle.model.specs.Conditions.{EntryFits}
use Rattle.model.proofs.Tests.{bad_geometry_none}
use Rattle.model.proofs.Bounds.{b_bounds, bytes_small, offset_of_lt, block_fits}
use Rattle.lines.specs.Hexadecimal.{Spelt, Bytes, Neither, decode}
use Rattle.lines.specs.Answers.{served}
use Rattle.claims.specs.State.{State, empty}
use Rattle.claims.specs.Claims.{Stepped, refused_by, printed, written}
use Rattle.claims.proofs.Claims.{all_open-counted}
use Rattle.frames.specs.Frames.{size_of, on_size, pairs, on_order, counting, on_claim, on_kind, on_frame}
use Rattle.walk.specs.Lines.{step}
use Rattle.walk.specs.Theorems.{Reached, begin, after, answer_numbers, Listed, byte, values}
use Rattle.walk.proofs.Engine.{choose_cases, unless-cases, Fits, FitsOf, write_cases}

-- ---- the invariant

-- What every reached state has.
record SoundState (w : State) : Type 0 where
  drawn : w.held.position ≤ 4112 * w.counted
  fits : w.sized ≡ true → FitsOf w.held
  places : w.shuffled ≡ true → length w.perm ≡ (geometry w.held).p

-- A line that gets a listed answer and leaves a sound state.
record Good (s : Stepped) : Type 0 where
  listed : Listed s.answer
  sound : SoundState s.state

-- ---- tables

-- What holds of every entry of a list and of a value holds of every entry once the value is set.
get_or_set_every : (P : ℕ → Type 0) (s : List ℕ) (at x : ℕ) → ((n : ℕ) → P (get_or s n 0)) → P x → (n : ℕ) → P (get_or (set s at x) n 0)
get_or_set_every P [] at x every new n = every n
get_or_set_every P (y ∷ s) zero x every new zero = new
get_or_set_every P (y ∷ s) zero x every new (suc n) = every (suc n)
get_or_set_every P (y ∷ s) (suc at) x every new zero = every zero
get_or_set_every P (y ∷ s) (suc at) x every new (suc n) = get_or_set_every P s at x (λ m. every (suc m)) new n

-- What holds of a value and of 0 holds of every entry, and past the end, of a list of that value.
get_or_replicate_every : (P : ℕ → Type 0) (k x : ℕ) → P x → P 0 → (n : ℕ) → P (get_or (replicate k x) n 0)
get_or_replicate_every P zero x here past n = past
get_or_replicate_every P (suc k) x here past zero = here
get_or_replicate_every P (suc k) x here past (suc n) = get_or_replicate_every P k x here past n

empty-fits : (g : Geometry) → Allowed g → FitsOf (empty g)
empty-fits g ok =
    record {
      stands =
          record {
            usable = record { opened = refl; allowed = ok; top = lit≤ tt; place = omega arith; counted = all_open-counted g 0 ok };
            long = refl;
            tables = (length-replicate _ _, length-replicate _ _);
          };
      entries = get_or_replicate_every (EntryFits g) (15 * g.p) unmapped (inl refl) (inr ok.slices_least);
      whole = λ i l. get_or-replicate 15 i g.p 0 (omega arith);
    }

-- Another start place that is allowed.
started_fits : (maps owners : List ℕ) (s : Session) → Fits maps owners s → (start : ℕ) → start ≤ s.geometry.p
    → Fits maps owners (starting_at start s)
started_fits maps owners s f start l =
    let t = f.stands in
    let u = t.usable in
    record {
      stands =
          record {
            usable = record { opened = u.opened; allowed = u.allowed; top = u.top; place = l; counted = u.counted };
            long = t.long;
            tables = t.tables;
          };
      entries = f.entries;
      whole = f.whole;
    }

claimed-fits : (maps owners : List ℕ) (s : Session) → Fits maps owners s → (at ψ owner : ℕ) → ψ < s.geometry.p
    → Fits (set maps at ψ) (set owners ψ owner) s
claimed-fits maps owners s f at ψ owner l =
    let t = f.stands in
    record {
      stands =
          record { usable = t.usable; long = t.long; tables = (length-set maps at ψ ∙ t.tables.0, length-set owners ψ owner ∙ t.tables.1) };
      entries = get_or_set_every (EntryFits s.geometry) maps at ψ f.entries (inr l);
      whole = f.whole;
    }

-- ---- the numbers of a served frame 03

-- The number of a device block fits four bytes.
block_small : (g : Geometry) → Allowed g → (ψ j : ℕ) → ψ < g.p → j < g.s → block_start g ψ j / g.b < 256 ^ 4
unfolding device_length
block_small g ok ψ j l h =
    let bounds = b_bounds g ok in
    let below : block_start g ψ j < 256 ^ 4 * g.b = omega (arith, block_fits g ok ψ j l h, bytes_small g ok g.p (omega arith)) in
    (div-lt_iff_lt-mul {k = g.b} (omega arith)).1 below

values_fit : (g : Geometry) → Allowed g → (a ψ probes position : ℕ) → ψ < g.p → probes ≤ g.p → position ≤ 4096 * 4112
    → Listed (served ψ (block_start g ψ (offset_of g a) / g.b) probes position)
values_fit g ok a ψ probes position l m n =
    let most = ok.slices_most in
    values ψ _ probes position (omega arith) (block_small g ok ψ (offset_of g a) l (offset_of_lt g ok a)) (omega arith) (omega arith)

-- ---- a geometry and a permutation

-- A chain of refusals by one number gives that number or 0.
refuse_either : (b : Bool) (n rest : ℕ) → (rest ≡ n) ⊎ (rest ≡ 0) → (refuse b n rest ≡ n) ⊎ (refuse b n rest ≡ 0)
unfolding refuse
refuse_either true n rest later = inl refl
refuse_either false n rest later = later

bad_geometry_either : (n : ℕ) (g : Geometry) → (bad_geometry n g 0 ≡ n) ⊎ (bad_geometry n g 0 ≡ 0)
unfolding bad_geometry
bad_geometry_either n g =
    refuse_either _ n _ (refuse_either _ n _ (refuse_either _ n _ (refuse_either _ n _ (refuse_either _ n _ (inr refl)))))

pairs-length : (bytes : List ℕ) → length (pairs bytes) ≡ length bytes / 2
unfolding pairs
pairs-length [] = refl
pairs-length (h ∷ []) = refl
pairs-length (h ∷ l ∷ bytes) = omega (arith, pairs-length bytes)

module _ (w : State) (s : SoundState w) where
  refused_good : (n : ℕ) → member n answer_numbers ≡ true → Good (refused_by w n)
  refused_good n l = record { listed = byte n l; sound = s }

  -- ---- frame 01

  size_good : (fields : List ℕ) → Good (on_size w fields)
  unfolding on_size
  size_good fields =
      let g = size_of fields in
      unless-cases Good _ _ _ _ _ (λ e. refused_good 14 refl)
      (λ e. unless-cases Good _ _ _ _ _ (λ e. refused_good 14 refl)
      (λ e. unless-cases Good _ _ _ _ _ (λ e. refused_good 1 refl)
      (λ e. ⊎_elim (λ q. rw q (refused_good 1 refl))
      (λ q. let fits = empty-fits g (bad_geometry_none 0 g 0 q).0 in
      rw q (record { listed = byte 0 refl; sound = record { drawn = omega arith; fits = λ e. fits; places = λ e. absurd (false≢true e) } }))
      (bad_geometry_either 1 g))))

  -- ---- frame 02

  order_good : (fields : List ℕ) → Good (on_order w fields)
  unfolding on_order
  order_good fields =
      let p = (geometry w.held).p in
      unless-cases Good _ _ _ _ _ (λ e. refused_good 14 refl)
      (λ e. unless-cases Good _ _ _ _ _ (λ e. refused_good 20 refl)
      (λ e. unless-cases Good _ _ _ _ _ (λ e. refused_good 5 refl)
      (λ long. unless-cases Good _ _ _ _ _ (λ e. refused_good 5 refl)
      (λ e. let places : length (pairs fields) ≡ p = omega (arith, pairs-length fields, eqb-true (length fields) (2 * p) (not-false _ long)) in
      record { listed = byte 0 refl; sound = record { drawn = s.drawn; fits = s.fits; places = λ e. places } }))))

  -- ---- frame 03

  -- The state after a counted frame, with what it leaves held.
  abbrev leaving : Held → State
  leaving h = record w { counted = w.counted + 1; held = h }

  module _ (room : w.counted < 4096) where
    leaving_sound : (h : Held) → geometry h ≡ geometry w.held → h.position ≤ w.held.position + 4112 → (w.sized ≡ true → FitsOf h)
        → SoundState (leaving h)
    leaving_sound h same moved fits = record { drawn = omega arith; fits = fits; places = λ e. rw same (s.places e) }

    written_good : w.sized ≡ true → w.shuffled ≡ true → (i a : ℕ) → Good (written (counting w) i a)
    written_good sized shuffled i a =
        let h = w.held in
        let g = geometry h in
        let fits = s.fits sized in
        let ok = fits.stands.usable.allowed in
        let small = (b_bounds g ok).1 in
        let fitting = values_fit g ok a in
        write_cases h w.perm i a fits (s.places shuffled) (omega arith)
        (λ o. Good (record { state = leaving o.held; answer = printed g (offset_of g a) o.held.position o.answer }))
        (λ n probes l. record { listed = byte n l; sound = leaving_sound h refl (omega arith) s.fits })
        (record { listed = byte 22 refl; sound = leaving_sound _ refl (omega arith) (λ e. started_fits _ _ _ fits g.p (le_refl g.p)) })
        (λ ψ l. record { listed = fitting ψ 0 _ l (omega arith) (omega arith); sound = leaving_sound _ refl (omega arith) s.fits })
        (λ ψ place l m.
        record {
          listed = fitting ψ _ _ l (omega arith) (omega arith);
          sound = leaving_sound _ refl (omega arith) (λ e. claimed-fits _ _ _ (started_fits _ _ _ fits (place + 1) (omega arith)) _ ψ _ l);
        })

  -- A frame 03 past the first tests.
  opened_good : (fields : List ℕ) → w.counted < 4096
      → Good (unless (refuse (not (w.sized && w.shuffled)) 20 0) (refused_by (counting w))
      (written (counting w) (get_or fields 0 0) (number (part 1 4 fields))))
  opened_good fields room =
      let early : Good (refused_by (counting w) 20) =
      record { listed = byte 20 refl; sound = leaving_sound room w.held refl (omega arith) s.fits } in
      unless-cases Good (not (w.sized && w.shuffled)) 20 0 (refused_by (counting w))
      (written (counting w) (get_or fields 0 0) (number (part 1 4 fields))) (λ e. early)
      (λ e. let both = (and-eq-true_iff _ _).0 (not-false _ e) in
      written_good room both.0 both.1 (get_or fields 0 0) (number (part 1 4 fields)))

  claim_good : (fields : List ℕ) → Good (on_claim w fields)
  unfolding on_claim
  claim_good fields =
      unless-cases Good _ _ _ _ _ (λ e. refused_good 14 refl)
      (λ e. unless-cases Good _ _ _ _ _ (λ e. refused_good 14 refl) (λ e. opened_good fields (leb-false _ _ e)))

  -- ---- any line

  kind_good : (kind : ℕ) (fields : List ℕ) → Good (on_kind w kind fields)
  unfolding on_kind
  kind_good kind fields =
      choose_cases Good (eqb kind 1) (λ e. size_good fields)
      (λ e. choose_cases Good (eqb kind 2) (λ e. order_good fields)
      (λ e. choose_cases Good (eqb kind 3) (λ e. claim_good fields) (λ e. refused_good 14 refl)))

  frame_good : (f : Spelt) → Good (on_frame w f)
  unfolding on_frame
  frame_good Neither = refused_good 14 refl
  frame_good (Bytes []) = refused_good 14 refl
  frame_good (Bytes (kind ∷ fields)) =
      choose_cases Good (ltb 513 (1 + length fields)) (λ e. refused_good 14 refl) (λ e. kind_good kind fields)

  step_good : (line : List ℕ) → Good (step w line)
  unfolding step
  step_good line = frame_good (decode line)

reached_sound : {w : State} → Reached w → SoundState w
reached_sound begin =
    record { drawn = omega arith; fits = λ e. absurd (false≢true e); places = λ e. absurd (false≢true e) }
reached_sound (after w line r) = (step_good w (reached_sound r) line).sound

pub listed : (w : State) (line : List ℕ) → Reached w → Listed (step w line).answer
listed w line r = (step_good w (reached_sound r) line).listed
