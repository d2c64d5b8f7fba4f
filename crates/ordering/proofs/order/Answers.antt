-- `ordering::order` meets its contract. Before each turn the run from here on comes to what the whole run does. Assumes nothing.
use Rattle.std.proofs.Common.{◌≡◌, sym, ◌∙◌, ◌+◌, ◌≤◌, length, ltb, arith}
use Rattle.refusals.specs.Numbers.{unless_refused}
use Rattle.model.specs.Shuffle.{limit}
use Rattle.ordering.proofs.Exits.{makes_served, makes_refused}
use Rattle.ordering.proofs.Turns.{onward_turn, turn_le, onward_ended, onward_done}
use Rattle.ordering.proofs.order.Goals as goal

pub returns-then-tape-at-lt2 : goal.returns-then-tape-at-lt2
unfolding unless_refused
returns-then-tape-at-lt2 c old =
    let l = c.loop-place in
    makes_refused (sym l.invariant.3 ∙ onward_ended l.place l.list c.args.tape.now l.at (omega arith) (omega arith))

pub loop-place-preserved : goal.loop-place-preserved
loop-place-preserved c =
    let t = c.turn-place in
    let l = c.loop-place in
    let tape = c.args.tape.now in
    let room : l.at + 2 ≤ length tape = omega arith in (
      omega arith,
      room,
      omega (arith, t.ensures.0, turn_le (ltb c.draw_at.result (limit (l.place + 1))) l.place),
      rw (t.ensures.0, t.ensures.1) (sym (onward_turn l.place l.list tape l.at (omega arith) room _ c.draw_at.ensures.0) ∙ l.invariant.3),
    )

pub returns : goal.returns
unfolding unless_refused
returns c old =
    let l = c.loop-place in
    let last : l.place ≡ 0 = omega arith in
    makes_served (sym l.invariant.3 ∙ rw last (onward_done l.list c.args.tape.now l.at)) l.invariant.0 l.invariant.1
