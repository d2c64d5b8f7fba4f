-- What a shuffle leaves. Assumes nothing.
use Prim.Native.Nat.{ℕ, ◌+◌, ◌-◌, ◌*◌}
use mathlib.Core.Path.{◌≡◌, sym, subst, ◌∙◌}
use mathlib.Core.List.{List}
use native.Mathlib.Omega.{arith}
use lib.ListN.{length-drop}
use Rattle.model.specs.declared.Geometry.{Geometry}
use Rattle.model.specs.Conditions.{Names, DrawnFrom}
use Rattle.model.specs.Shuffle.{ordering}
use Rattle.model.proofs.Shuffles.{ordering_names, run_drawn}
use Rattle.guarantees.proofs.Answered.{open_answered, write_answered, release_answered}
use Rattle.evenness.specs.Runs.{AcceptedRun}
use Rattle.evenness.specs.Orders.{Leaves, Made}
use Rattle.evenness.proofs.Served.{open_not_5, write_not_5, release_not_5, drawing_accepted, run_drawing, run_bytes, ran, ran_draws}
use Rattle.evenness.proofs.shuffled_orders.Goals as goal

names : (g : Geometry) (perm : List ℕ) → Made g perm → Names g.p perm
names g perm m =
    let r = ran g m.list m.tape m.position perm m.after m.leaves in
    subst (Names g.p) (sym r.made) (ordering_names g.p r.accepted)

accepted : (g : Geometry) (list : ℕ) (tape : List ℕ) (position : ℕ) (perm : List ℕ) (after : ℕ) → Leaves g list tape position perm after
    → (draws : List ℕ) × (n : ℕ) × DrawnFrom tape position (g.p - 1) draws n × AcceptedRun g.p draws
    × (perm ≡ ordering g.p draws) × (after ≡ position + n)
accepted g list tape position perm after e =
    let r = ran g list tape position perm after e in
    let d = run_drawn (g.p - 1) _ r.accepted r.drawn r.is in (
      r.accepted,
      2 * r.drawn,
      record { inside = omega (arith, r.inside, d.0, length-drop position tape); bytes = d.1 },
      drawing_accepted d.1,
      r.made,
      r.moved,
    )

pub returns : goal.returns
returns c =
    record {
      names = names;
      opens = λ g perm m device key maps owners. open_not_5 (open_answered device g key maps owners perm) (names g perm m);
      writes = λ h perm m device i a text tape. write_not_5 (write_answered device h i a text perm tape) (names h.session.geometry perm m);
      releases = λ h perm m device i σ tape. release_not_5 (release_answered device h i σ perm tape) (names h.session.geometry perm m);
      accepted = accepted;
      thrown_away = λ g list list' tape tape' position position' perm perm' after after' e e' draws n n' d d'.
          ran_draws g list tape position perm after (ran g list tape position perm after e) draws n d
          ∙ sym (ran_draws g list' tape' position' perm' after' (ran g list' tape' position' perm' after' e') draws n' d');
      arises = λ p draws run. (_, run_drawing (p - 1) draws run, run_bytes (p - 1) draws run);
    }
