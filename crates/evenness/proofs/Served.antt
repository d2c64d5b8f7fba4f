-- What a served shuffle leaves: the ordering of its accepted draws; no call refuses it by 5. Assumes nothing.
use Prim.Native.Nat.{ℕ, zero, suc, ◌+◌, ◌-◌, ◌*◌, ◌/◌, ◌%◌, ◌≤◌, ◌<◌}
use mathlib.Core.Path.{◌≡◌, refl, sym, ap, subst, ◌∙◌}
use mathlib.Core.List.{List, [], ◌∷◌}
use native.Mathlib.Omega.{arith}
use native.Mathlib.Nat.{mod-lt, div-add-mod', div-lt_iff_lt-mul}
use lib.ListN.{length, get_or, drop, take-append-drop}
use Rattle.model.specs.declared.Geometry.{Geometry}
use Rattle.model.specs.Session.{Held, LentResult, geometry}
use Rattle.model.specs.Conditions.{Names, Accepts, Drawing, DrawnFrom}
use Rattle.model.specs.Opening.{OpenResult, OpenTo, NotOpened, OpenOutcome}
use Rattle.model.specs.Write.{WriteResult}
use Rattle.model.specs.Release.{ReleaseResult}
use Rattle.guarantees.specs.Openings.{OpenAnswered}
use Rattle.guarantees.specs.Points.{WriteAnswered, ReleaseAnswered}
use Rattle.guarantees.proofs.Chains.{first-leads, skip, leads_barred}
use Rattle.model.specs.Shuffle.{in_order, ordering, draws, Run, Accepted, Ended, run, shuffle_refusal, shuffled, shuffle_model}
use Rattle.model.specs.Answers.{lent_number, lent_list, lent_position}
use Rattle.model.proofs.Refused.{unless-cases}
use Rattle.model.proofs.Requests.{shuffle_refusal_none}
use Rattle.model.proofs.Permutations.{names_below}
use Rattle.model.proofs.Shuffles.{drawing_run}
use Rattle.evenness.specs.Runs.{OneEach}

-- ---- 5

-- Another number.
another : (n : ℕ) → (n ≡ 5 → ⊥) → n ≡ 5 → ⊥
another n ne e = ne e

refusal_of : OpenResult → ℕ
refusal_of (OpenTo k) = 0
refusal_of (NotOpened n) = n

-- An opening, a write and a release that are handed a permutation which names each slice.
pub open_not_5 : {device : List ℕ} {g : Geometry} {key maps owners perm : List ℕ} {o : OpenOutcome}
    → OpenAnswered device g key maps owners perm o → Names g.p perm → o.answer ≡ NotOpened 5 → ⊥
unfolding refusal_of
open_not_5 (OpenAnswered.handed_wrong n ne first) names e =
    leads_barred (first-leads _ first)
    (skip refl (skip refl (skip refl (skip refl ((λ q f. f names), tt))))) (omega arith) (ap refusal_of e)
open_not_5 (OpenAnswered.no_cell ok shut) names e = another 6 (omega arith) (ap refusal_of e)
open_not_5 (OpenAnswered.header_tag ok k top low i vmk way wrong) names e = another 7 (omega arith) (ap refusal_of e)
open_not_5 (OpenAnswered.header_geometry ok k top low i vmk text way opens fits) names e = another 8 (omega arith) (ap refusal_of e)
open_not_5 (OpenAnswered.bad_entry_lem ok k top keys counts low all n l good mark fits) names e =
    another 9 (omega arith) (ap refusal_of e)
open_not_5 (OpenAnswered.slice_twice ok k top keys counts low all n l good fits m h same) names e =
    another 10 (omega arith) (ap refusal_of e)
open_not_5 (OpenAnswered.served ok k top o low all good is) names e = another 0 (omega arith) (ap refusal_of (sym is ∙ e))

refusal_in : WriteResult → ℕ
refusal_in (WriteResult.Served change probes) = 0
refusal_in (WriteResult.Refused n probes) = n

pub write_not_5 : {device : ℕ} {h : Held} {i a : ℕ} {text perm tape : List ℕ} {r : WriteResult}
    → WriteAnswered device h i a text perm tape r → Names (geometry h).p perm → (probes : ℕ) → r ≡ WriteResult.Refused 5 probes → ⊥
unfolding refusal_in
write_not_5 (WriteAnswered.rewritten place ends first mapped) names probes e = another 0 (omega arith) (ap refusal_in e)
write_not_5 (WriteAnswered.claimed place free first unmapped) names probes e = another 0 (omega arith) (ap refusal_in e)
write_not_5 {h} {perm} (WriteAnswered.refused place n count ne ends first) names probes e =
    leads_barred (first-leads _ first)
    (skip refl (skip refl (skip refl (
      (λ q f. f names.places),
      skip refl (skip refl (skip refl (skip refl (skip refl (skip refl
          ((λ q bad. omega (arith, bad.1.bad, names_below (geometry h).p perm names place bad.1.inside)), skip refl (skip refl tt))))))),
    ))))
    (omega arith) (ap refusal_in e)

refused_by : ReleaseResult → ℕ
refused_by (ReleaseResult.Freed ψ) = 0
refused_by (ReleaseResult.Refused n) = n

pub release_not_5 : {device : ℕ} {h : Held} {i σ : ℕ} {perm tape : List ℕ} {r : ReleaseResult}
    → ReleaseAnswered device h i σ perm tape r → Names (geometry h).p perm → r ≡ ReleaseResult.Refused 5 → ⊥
unfolding refused_by
release_not_5 (ReleaseAnswered.served first) names e = another 0 (omega arith) (ap refused_by e)
release_not_5 (ReleaseAnswered.refused n ne first) names e =
    leads_barred (first-leads _ first)
    (skip refl (skip refl (skip refl ((λ q f. f names), skip refl (skip refl (skip refl (skip refl (skip refl tt)))))))) (omega arith)
    (ap refused_by e)

-- ---- runs

-- The draws that bytes hold are a run, and each run is held by some bytes.
pub drawing_accepted : {i : ℕ} {bytes ds : List ℕ} → Drawing i bytes ds → OneEach Accepts i ds
drawing_accepted Drawing.done = tt
drawing_accepted (Drawing.thrown i a b bytes ds out q) = drawing_accepted q
drawing_accepted (Drawing.taken i a b bytes ds ok q) = (ok, drawing_accepted q)

abbrev bytes_of : List ℕ → List ℕ
bytes_of [] = []
bytes_of (d ∷ ds) = d / 256 ∷ d % 256 ∷ bytes_of ds

pub run_drawing : (i : ℕ) (ds : List ℕ) → OneEach Accepts i ds → Drawing i (bytes_of ds) ds
run_drawing zero [] run = Drawing.done
run_drawing zero (d ∷ ds) run = absurd run
run_drawing (suc i) [] run = absurd run
run_drawing (suc i) (d ∷ ds) run =
    let is : 256 * (d / 256) + d % 256 ≡ d = omega (arith, div-add-mod' d 256) in
    subst (λ (x : ℕ). Drawing (suc i) (d / 256 ∷ d % 256 ∷ bytes_of ds) (x ∷ ds)) is
    (Drawing.taken i (d / 256) (d % 256) (bytes_of ds) ds (subst (Accepts (suc (suc i))) (sym is) run.0) (run_drawing i ds run.1))

pub run_bytes : (i : ℕ) (ds : List ℕ) → OneEach Accepts i ds → (n : ℕ) → get_or (bytes_of ds) n 0 < 256
run_bytes i [] run n = omega arith
run_bytes zero (d ∷ ds) run n = absurd run
run_bytes (suc i) (d ∷ ds) run zero =
    let a = run.0 in
    (div-lt_iff_lt-mul {k = 256} (omega arith)).1 (omega (arith, a.1, a.2))
run_bytes (suc i) (d ∷ ds) run (suc zero) = mod-lt d (omega arith)
run_bytes (suc i) (d ∷ ds) run (suc (suc n)) = run_bytes i ds run.1 n

-- ---- a served shuffle

accepted_in : Run → List ℕ
accepted_in (Accepted ds n) = ds
accepted_in Ended = []

module _ (g : Geometry) (list : ℕ) (tape : List ℕ) (position : ℕ) (perm : List ℕ) (after : ℕ) where
  abbrev i : ℕ
  i = g.p - 1

  abbrev left : List ℕ
  left = drop position tape

  -- The run that it comes to.
  pub record Ran : Type 0 where
    pub inside : position ≤ length tape
    pub accepted : List ℕ
    pub drawn : ℕ
    pub is : run i (draws left) ≡ Accepted accepted drawn
    pub made : perm ≡ ordering g.p accepted
    pub moved : after ≡ position + 2 * drawn

  ran_by : position ≤ length tape → (r : Run) → run i (draws left) ≡ r → shuffled i (in_order g.p) position r ≡ LentResult.Served perm after → Ran
  ran_by inside (Accepted ds n) q e =
      record {
        inside = inside;
        accepted = ds;
        drawn = n;
        is = q;
        made = sym (ap (λ (r : LentResult). lent_list r []) e);
        moved = sym (ap (λ (r : LentResult). lent_position r 0) e);
      }
  ran_by inside Ended q e = let z : ◌≡◌ {A = ℕ} 21 0 = ap lent_number e in absurd (omega (arith, z))

  pub ran : shuffle_model g list tape position ≡ LentResult.Served perm after → Ran
  unfolding shuffle_model
  ran =
      unless-cases (λ (r : LentResult). r ≡ LentResult.Served perm after → Ran) (shuffle_refusal g list (length tape) position) _ _
      (λ n e q. let z : ◌≡◌ {A = ℕ} (suc n) 0 = ap lent_number q in absurd (omega (arith, z)))
      (λ e q. ran_by (shuffle_refusal_none g list (length tape) position e).inside (run i (draws left)) refl q)

  -- Draws from the position on are the accepted ones.
  pub ran_draws : Ran → (ds : List ℕ) (n : ℕ) → DrawnFrom tape position i ds n → perm ≡ ordering g.p ds
  unfolding accepted_in
  ran_draws r ds n d =
      let k = drawing_run d.bytes (drop n left) in
      let same : r.accepted ≡ ds =
      ap accepted_in (sym r.is ∙ ap (λ (l : List ℕ). run i (draws l)) (sym (take-append-drop n left)) ∙ k.2) in
      r.made ∙ ap (ordering g.p) same
